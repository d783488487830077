-- The table of worked events, by computing.
use Rattle.std.proofs.Common.{refl}
use Rattle.model.specs.Basics.{in_box}
use Rattle.model.specs.Desk.{window, with_window, with_order, with_pointer, with_hands, with_clip, in_window, front, dot, dot_of, free, area, without, mine, painted, box_fits, clamp, told_place, told_key, told_clip, press_down, press_up, does, kind, sender, after, run, empty}
use Rattle.model.specs.Worked.{Worked, all_words}

pub worked : Worked
unfolding Worked all_words window with_window with_order with_pointer with_hands with_clip in_window front dot dot_of free area without mine painted in_box box_fits clamp told_place told_key told_clip press_down press_up does kind sender after run empty
worked = refl
