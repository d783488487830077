use Rattle.server.proofs.MailboxLaws.{words-read-back, words-read-only, words-fault-first, rows-together, told-together, own-together, own-words-stand, own_alone, own-short, heard-stands, taken-heard}
use Rattle.server.proofs.mailbox.mailbox_stands.Goals as goal

pub returns : goal.returns
returns c =
    record {
      back = words-read-back;
      only = words-read-only;
      first = words-fault-first;
      rows = rows-together;
      bytes = told-together;
      together = own-together;
      words = own-words-stand;
      alone = own_alone;
      short = own-short;
      heard = heard-stands;
      taken = taken-heard;
    }
