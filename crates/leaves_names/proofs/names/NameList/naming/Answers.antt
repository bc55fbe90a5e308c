-- A list that is refused is refused for every name; else the name decides. Assumes nothing.
use Rattle.std.specs.Prelude.{◌≡◌, List, ℕ, true, cond, length, Err}
use mathlib.Core.Path.{sym, ◌∙◌}
use Rattle.std.proofs.Common.{subst}
use Rattle.std.proofs.lemmas.Result.{err_from_is_err_and}
use Rattle.leaves.specs.declared.refusal.Refusal.TheVariants.{BadName}
use Rattle.leaves_names.specs.declared.names.NameList.{NameList}
use Rattle.leaves_names.specs.Names.{names_in, is_name, least, numbering, naming, well_formed, list_fits}
use Rattle.leaves_names.specs.NamingLaws.{naming_refused, naming_checked}
use Rattle.leaves_names.proofs.names.NameList.naming.Goals as goal

checked : (l m : NameList) → l ≡ m → list_fits (length m.bytes.now) (length m.ends.now) m.names m.name_bytes ≡ true → well_formed m.bytes.now m.ends.now m.names m.name_bytes ≡ true
    → (name : List ℕ) → naming m.bytes.now m.ends.now m.names m.name_bytes name
    ≡ cond (is_name name) (numbering (length l.bytes.now) (length l.ends.now) l.names l.name_bytes (length name) (least name (names_in l))) (Err BadName)
checked l m e f g name =
    subst
    (λ (x : NameList). naming m.bytes.now m.ends.now m.names m.name_bytes name
    ≡ cond (is_name name) (numbering (length x.bytes.now) (length x.ends.now) x.names x.name_bytes (length name) (least name (names_in x))) (Err BadName))
    (sym e) (naming_checked m.bytes.now m.ends.now m.names m.name_bytes f g name)

pub returns-in_err-names : goal.returns-in_err-names
returns-in_err-names c =
    let p = err_from_is_err_and c.from_residual.result c.from_residual.ensures.1 in
    rw (p.1, p.2) (naming_refused _ _ _ _ _ c.in_err-names.ensures.answer _)

pub returns-then-not-is_name : goal.returns-then-not-is_name
returns-then-not-is_name c =
    let e = c.in_ok-names.ensures in
    sym (checked _ c.args.self e.list e.formed.0 e.formed.1 c.args.text.now ∙ rw (sym c.is_name.ensures ∙ c.if-not-is_name.true))

pub number_for-requires : goal.number_for-requires
number_for-requires c =
    let e = c.in_ok-names.ensures in
    subst (λ (x : NameList). list_fits (length x.bytes.now) (length x.ends.now) x.names x.name_bytes ≡ true) (sym e.list) e.formed.0

pub returns : goal.returns
returns c =
    let e = c.in_ok-names.ensures in
    c.number_for.ensures
    ∙ sym (checked _ c.args.self e.list e.formed.0 e.formed.1 c.args.text.now ∙ rw (sym c.is_name.ensures ∙ c.if-not-is_name.false))
