-- What is said of a window that was looked for. d is any desk with the windows of the state.
use Rattle.std.specs.Prelude.{◌≡◌, ℕ, suc, ◌<◌, Bool, true, false, List, ℤ, Some, None, Option, slice_index_or, slice_set}
use Rattle.model.specs.Desk.{Desk, window, mine, front, in_window}
use Rattle.stack.specs.declared.state.Window.{Window}
use Rattle.stack.specs.declared.state.Stack.{Stack}
use Rattle.stack.specs.View.{view, slots_of, windows_of, order_of}

-- w is the window n of s, and its owner is c
pub record Own (s : Stack) (c n : ℕ) (w : Window) : Type 0 where
  pub slot : slice_index_or (slots_of s) n None ≡ Some w
  pub low : n < s.limit
  pub owner : w.owner ≡ c
  pub mine : (d : Desk) (p : List ℕ) → d.windows ≡ windows_of s p → mine d c n ≡ true
  pub value : (d : Desk) (p : List ℕ) → d.windows ≡ windows_of s p → window d n ≡ view p (Some w)

-- the window n of s, where it is there and its owner is c
abbrev pub Owned : Stack → ℕ → ℕ → Option Window → Type 0
Owned s c n None = (d : Desk) (p : List ℕ) → d.windows ≡ windows_of s p → mine d c n ≡ false
Owned s c n (Some w) = Own s c n w

-- t is s after a change of the window n by a program c: where c owns it, `makes` holds of it and of what it is now; else nothing changes
abbrev pub ChangedBy : (Window → Window → Type 0) → Stack → ℕ → ℕ → Bool → Stack → Type 0
ChangedBy makes s c n true t = (w : Window) × (v : Window) × Own s c n w × makes w v × (slots_of t ≡ slice_set (slots_of s) n (Some v))
ChangedBy makes s c n false t = Owned s c n None × (slots_of t ≡ slots_of s)

-- w is the window n of s, and at the place x, y it is in front
pub record Front (s : Stack) (x y : ℤ) (n : ℕ) (w : Window) : Type 0 where
  pub slot : slice_index_or (slots_of s) n None ≡ Some w
  pub low : n < s.limit
  pub front : (d : Desk) (p : List ℕ) → d.windows ≡ windows_of s p → front d (order_of s) x y ≡ suc n
  pub value : (d : Desk) (p : List ℕ) → d.windows ≡ windows_of s p → window d n ≡ view p (Some w)
  pub covers : (p : List ℕ) → in_window (view p (Some w)) x y ≡ true

-- the window in front at a place, where there is one
abbrev pub Found : Stack → ℤ → ℤ → Option (ℕ × Window) → Type 0
Found s x y None = (d : Desk) (p : List ℕ) → d.windows ≡ windows_of s p → front d (order_of s) x y ≡ 0
Found s x y (Some f) = Front s x y f.0 f.1
