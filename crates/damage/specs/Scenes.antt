-- What is written of a scene.
use Rattle.std.specs.Prelude.{ℕ, Bool, List}
use Rattle.model.specs.System as system
use Rattle.damage.specs.declared.scene.Scene.{Scene}
use Rattle.damage.specs.Cells.{words_of, damaged}

-- the dots that are damaged
abbrev pub in_scene : Scene → ℕ → ℕ → Bool
in_scene s = damaged s.hurt s.before.now s.after.now s.pictures.now

-- boxes of the desk as it is afterwards, as words
abbrev pub written : Scene → List system.Rect → List ℕ
written s rs = words_of s.after.now s.pictures.now rs
