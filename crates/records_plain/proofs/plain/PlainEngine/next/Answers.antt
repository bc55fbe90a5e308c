-- Where all five arrays are right, the four of the streams are. Assumes nothing.
use mathlib.Core.Path.{◌∙◌}
use native.Mathlib.Omega.{arith}
use Rattle.records_rules.specs.Bytes.{streams_of}
use Rattle.records_plain.specs.Plain.{PlainSays}
use Rattle.records_plain.specs.PlainSteps.{four_fit}
use Rattle.records.specs.Merge.{turn_of}
use Rattle.records_plain.proofs.plain.PlainEngine.next.Goals as goal

pub returns-clause-says : goal.returns-clause-says
returns-clause-says c =
    let told = c.next.ensures in
    let s = c.args.state.now in
    let t = c.next.new.state in
    record {
      fewer = omega arith;
      says = λ e n few ok.
          let says : PlainSays (streams_of c.args.buffer.now c.args.cuts.now) n s.marks.now s.times.now s.places.now s.heads.now
          (turn_of c.next.result) t.marks.now t.times.now t.places.now t.heads.now =
          rw ok.0 at (told.says.told (four_fit _ _ _ _ _ _ e) (rw ok.0 ok.1)) in
          record { heard = says.heard; leaves = says.leaves; after = (told.others.0 ∙ ok.0, says.small) };
    }
