-- Each of the record's cases, of the name's and of the two times. Assumes nothing.
use mathlib.Core.Bool.{true}
use mathlib.Core.List.{[]}
use mathlib.Core.Path.{◌≡◌, ap, sym, ◌∙◌, refl}
use Prim.Native.Nat.{◌<◌}
use Rattle.std.specs.Prelude.{Ok}
use Rattle.std.proofs.lemmas.Grind.{common_steps}
use native.Mathlib.Omega.{arith}
use borrow.Author.Rules.{rules}
use Rattle.std.proofs.lemmas.Result.{err_from_is_err_and}
use Rattle.map_plan.specs.Wanted.{numbered}
use Rattle.map_plan.specs.WantedLaws.{asked_other, asked_refused, asked_bounds, asked_name, asked_naming, asked_bad, asked_reversed, asked_empty, asked_stored, lies}
use Rattle.map_plan.proofs.planning.plan_record.Goals as goal

pub slice_bounds-name-count : goal.slice_bounds-name-count
slice_bounds-name-count c = (asked_bounds true [] [] _ 0 0 c.read_mapping.ensures (c.in_ok-mapping.was ∙ ap Ok c.in-Some.is)).0

pub slice_bounds-name-start : goal.slice_bounds-name-start
slice_bounds-name-start c =
    let b = asked_bounds true [] [] _ 0 0 c.read_mapping.ensures (c.in_ok-mapping.was ∙ ap Ok c.in-Some.is) in
    search (rules, b.0, b.1)

pub returns-in_err-mapping-clause-result_value : goal.returns-in_err-mapping-clause-result_value
returns-in_err-mapping-clause-result_value c =
    let p = err_from_is_err_and c.from_residual.result c.from_residual.ensures.1 in
    rw (p.1, p.2) (asked_refused _ _ _ _ _ _ c.read_mapping.ensures c.in_err-mapping.was)

pub returns-in_default-clause-result_value : goal.returns-in_default-clause-result_value
returns-in_default-clause-result_value c = asked_other _ _ _ _ _ _ c.read_mapping.ensures (c.in_ok-mapping.was ∙ ap Ok c.in_default.is)

pub returns-then-not-is_name-clause-result_value : goal.returns-then-not-is_name-clause-result_value
returns-then-not-is_name-clause-result_value c =
    asked_bad _ _ _ _ _ _ c.read_mapping.ensures (c.in_ok-mapping.was ∙ ap Ok c.in-Some.is) c.is_name.ensures c.if-not-is_name.true

pub returns-then-mapping-clause-result_value : goal.returns-then-mapping-clause-result_value
returns-then-mapping-clause-result_value c =
    asked_reversed _ _ _ _ _ _ c.read_mapping.ensures (c.in_ok-mapping.was ∙ ap Ok c.in-Some.is) c.is_name.ensures c.if-not-is_name.false c.if-over_time.true c.if-mapping.true

pub returns-then-mapping-2-clause-result_value : goal.returns-then-mapping-2-clause-result_value
returns-then-mapping-2-clause-result_value c =
    asked_empty _ _ _ _ _ _ c.read_mapping.ensures (c.in_ok-mapping.was ∙ ap Ok c.in-Some.is) c.is_name.ensures c.if-not-is_name.false (search rules) (search rules)

pub returns-in_err-naming-clause-result_value : goal.returns-in_err-naming-clause-result_value
returns-in_err-naming-clause-result_value c =
    let m = c.in-Some.mapping in
    let s = c.in_ok-mapping.was ∙ ap Ok c.in-Some.is in
    let f : c.args.over_time ≡ true → m.start < m.end = grind (arith, common_steps) in
    let p = err_from_is_err_and c.from_residual-in_err-naming.result c.from_residual-in_err-naming.ensures.1 in
    let n = asked_naming c.args.over_time c.args.names.list.bytes.now c.args.names.list.ends.now c.args.rec.now c.args.names.list.names c.args.names.list.name_bytes c.read_mapping.ensures s c.number_for.ensures in
    rw (p.1, p.2) (ap (numbered m.instrument m.start m.end) (sym c.in_err-naming.was ∙ n) ∙ asked_stored _ _ _ _ _ _ c.read_mapping.ensures s c.is_name.ensures c.if-not-is_name.false f)

pub returns-clause-result_value : goal.returns-clause-result_value
returns-clause-result_value c =
    let m = c.in-Some.mapping in
    let s = c.in_ok-mapping.was ∙ ap Ok c.in-Some.is in
    let f : c.args.over_time ≡ true → m.start < m.end = grind (arith, common_steps) in
    let n = asked_naming c.args.over_time c.args.names.list.bytes.now c.args.names.list.ends.now c.args.rec.now c.args.names.list.names c.args.names.list.name_bytes c.read_mapping.ensures s c.number_for.ensures in
    ap (numbered m.instrument m.start m.end) (sym c.in_ok-naming.was ∙ n) ∙ asked_stored _ _ _ _ _ _ c.read_mapping.ensures s c.is_name.ensures c.if-not-is_name.false f

pub returns-clause-ready : goal.returns-clause-ready
returns-clause-ready c =
    let s = c.in_ok-mapping.was ∙ ap Ok c.in-Some.is in
    let n = asked_naming c.args.over_time c.args.names.list.bytes.now c.args.names.list.ends.now c.args.rec.now c.args.names.list.names c.args.names.list.name_bytes c.read_mapping.ensures s c.number_for.ensures in
    record {
      placed = lies _ _ _ _ _ _ (asked_name c.args.over_time [] [] _ 0 0 c.read_mapping.ensures s) (sym c.in_ok-naming.was ∙ n);
      forward = grind (arith, common_steps);
      formed = refl;
    }
