mod Inserting
