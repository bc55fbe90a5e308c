-- A list that is refused is refused for every number; else the number decides. Assumes nothing.
use Rattle.std.specs.Prelude.{[], ◌∷◌, cond, ltb}
use mathlib.Core.Path.{sym, ap, ◌∙◌}
use Rattle.std.proofs.lemmas.Result.{err_from_is_err_and}
use Rattle.theory.specs.Answer.{answer}
use Rattle.leaves.specs.Refusal.{answer_with, refused}
use Rattle.leaves.specs.declared.refusal.Refusal.TheVariants.{UnknownSymbol}
use Rattle.leaves_names.specs.declared.names.NameList.{NameList}
use Rattle.leaves_names.specs.Names.{name_start, name_end, place_values}
use Rattle.leaves_names.specs.NamesList.{place_answer}
use Rattle.leaves_names.specs.NamingLaws.{place_refused, place_checked}
use Rattle.leaves_names.proofs.names.NameList.place_of_name.Goals as goal

pub returns-in_err-names : goal.returns-in_err-names
returns-in_err-names c =
    let p = err_from_is_err_and c.from_residual.result c.from_residual.ensures.1 in
    rw (p.1, p.2) (place_refused _ _ _ _ _ c.in_err-names.ensures.answer _)

pub returns : goal.returns
returns c =
    let a = c.args.self in
    let l = c.in_ok-names.names.list in
    ap (answer_with place_values) c.ok_or.ensures.value
    ∙ place_answer l.ends.now l.names c.args.number c.place.ensures
    ∙ ap (λ (x : NameList). cond (ltb c.args.number x.names) (answer 0 (name_start x.ends.now c.args.number ∷ name_end x.ends.now c.args.number ∷ [])) (refused UnknownSymbol))
    c.in_ok-names.ensures.list
    ∙ sym (place_checked a.bytes.now a.ends.now a.names a.name_bytes c.in_ok-names.ensures.formed.0 c.in_ok-names.ensures.formed.1 c.args.number)
