-- The list that an array of so many elements holds.
use Rattle.std.specs.Prelude.{ℕ, Bool, true, false, List, take}
use Rattle.few.specs.declared.list.Few.{Few}

abbrev pub pick : {A : Type 0} → Bool → A → A → A
pick b x y = elim b [ true ↦ x | false ↦ y ]

-- the elements
abbrev pub held : {T : Type 0} {N : ℕ} → Few T N → List T
held f = take f.len f.items
