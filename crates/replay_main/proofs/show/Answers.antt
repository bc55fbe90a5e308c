-- A text that was laid is no longer than what it was laid in, and what is written of it is the bundle's text, which has the bundle's
-- status. Assumes nothing.
use Rattle.std.proofs.Common.{◌∙◌, ap, sym, subst, length-take-le}
use Rattle.standard.specs.Status.{EndsWith}
use Rattle.replay_text.specs.ReplayCalls.{text_taken}
use Rattle.replay_main.specs.Status.{text_status}
use Rattle.replay_main.specs.StatusLaws.{text_status_lem}
use Rattle.replay_main.proofs.show.Goals as goal

pub slice_bounds-put-end : goal.slice_bounds-put-end
slice_bounds-put-end g c = (text_taken _ _ _ _ c.in-Ok.ensures.result_value c.in-Ok.ensures.text_after).1

pub slice_bounds-put-end-in-Ok : goal.slice_bounds-put-end-in-Ok
slice_bounds-put-end-in-Ok g c =
    sym (length-take-le _ _ (text_taken _ _ _ _ c.in-Ok.ensures.result_value c.in-Ok.ensures.text_after).1)

pub returns-in-Ok : goal.returns-in-Ok
returns-in-Ok g c =
    let e = ap text_status (text_taken _ _ _ _ c.in-Ok.ensures.result_value c.in-Ok.ensures.text_after).0 in
    subst (λ k. EndsWith k c.put.result) (e ∙ text_status_lem _) c.put.ensures
