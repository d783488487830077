use Rattle.std.proofs.Common.{◌≡◌, length, sym, ap, ◌∙◌, subst, arith}
use Rattle.protocol.specs.Fields.{Bytes}
use Rattle.protocol.specs.Meaning.{meaning}
use Rattle.desktop.specs.Does.{told_of}
use Rattle.protocol.proofs.Adding.{added-as}
use Rattle.desktop.proofs.Held.{held-told}
use Rattle.layout.specs.Sizes.{sizes_of}
use Rattle.layout.specs.State.{Good, clip_in}
use Rattle.server.specs.Told.{told_bytes, AllCarried}
use Rattle.server.proofs.Telling.{stepped, told-room}
use Rattle.server.proofs.step.step.Goals as goal

pub tell-words_end-requires : goal.tell-words_end-requires
tell-words_end-requires c =
    let h = c.carry_out-told.ensures c.requires.good c.requires.had in
    let t = sym (held-told c.args.s.now c.carry_out-told.result h.had) ∙ h.carried.told in
    record {
      had = rw c.as_slice.ensures h.had;
      room = omega (arith, told-room c.args.z c.args.s.now c.args.pictures.now (meaning c.args.call.now c.args.e) c.carry_out-told.result t, ap (λ bs. length (told_bytes (told_of bs c.carry_out-told.result))) c.as_slice.ensures, c.requires.words);
    }

pub send-sent_end-requires : goal.send-sent_end-requires
send-sent_end-requires c =
    let h = (c.carry_out-told.ensures c.requires.good c.requires.had).carried in
    let s = c.args.s.now in
    let p = c.args.pictures.now in
    let l : length p ≡ length c.carry_out-told.new.pictures = omega (arith, c.carry_out-told.auto.pictures) in
    record {
      old = subst (Good (sizes_of c.args.z) s) l c.requires.good;
      new = h.good;
      room = c.requires.sent;
      step = (
        c.args.call.now,
        p,
        stepped c.args.z c.args.e s _ p _ c.args.call.now c.carry_out-told.result c.granted-taken.result c.granted-taken.ensures.value h,
      );
    }

pub returns : goal.returns
returns c =
    let o = c.carry_out-told.ensures c.requires.good c.requires.had in
    let h = o.carried in
    let t = sym (held-told c.args.s.now c.carry_out-told.result o.had) ∙ h.told in
    let e = meaning c.args.call.now c.args.e in
    let w = c.tell-words_end.ensures.added in
    record {
      good = h.good;
      desk = h.desk;
      sent_is = c.send-sent_end.ensures.sent c.args.call.now c.args.pictures.now (stepped c.args.z c.args.e c.args.s.now _ c.args.pictures.now _ c.args.call.now c.carry_out-told.result c.granted-taken.result c.granted-taken.ensures.value h);
      words_are = added-as _ _ _ _ _ _ (ap (λ bs. told_bytes (told_of bs c.carry_out-told.result)) c.as_slice.ensures ∙ ap told_bytes t) w;
      told = subst AllCarried t (c.granted-taken.ensures.fits (clip_in c.args.s.now) (subst Bytes c.as_slice.ensures c.tell-words_end.ensures.bytes));
      sent_low = c.send-sent_end.ensures.low;
      words_low = omega (arith, w.ends, ap (λ bs. length (told_bytes (told_of bs c.carry_out-told.result))) c.as_slice.ensures, told-room c.args.z c.args.s.now c.args.pictures.now e c.carry_out-told.result t);
    }
