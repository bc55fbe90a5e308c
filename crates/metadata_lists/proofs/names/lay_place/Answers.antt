-- `names::lay_place` meets its contract: not the first of its name, a conflict, or laid. Assumes nothing.
use mathlib.Core.Path.{refl, sym, ap, ◌∙◌}
use Prim.Native.Nat.{ℕ}
use native.Mathlib.Omega.{arith}
use lib.ListN.{get_or}
use Rattle.std.specs.Prelude.{Option}
use Rattle.metadata_lists.specs.declared.names.Laid.{Laid}
use Rattle.metadata_lists.specs.Heads.{ended_of}
use Rattle.metadata_lists.specs.Names.{end_names, place_skip, place_conflict, place_laid, laid_bound}
use Rattle.metadata_lists.proofs.names.lay_place.Goals as goal

pub returns-then-linked-name : goal.returns-then-linked-name
unfolding end_names
returns-then-linked-name c =
    place_skip _ _ _ _ _ _ _ _ _ _ _ c.name_at-name.ensures c.if-linked-name.true

pub overflow_sub-end : goal.overflow_sub-end
overflow_sub-end c =
    (laid_bound _ _ _ _ _ _ c.lay_name.new.out _ _
    (ap (λ (x : Option ℕ). ended_of x c.lay_name.new.out) (sym c.in_ok-end.was) ∙ c.lay_name.ensures)).0

pub put_mapping-requires : goal.put_mapping-requires
put_mapping-requires c =
    let b = laid_bound _ _ _ _ _ _ c.lay_name.new.out _ _
    (ap (λ (x : Option ℕ). ended_of x c.lay_name.new.out) (sym c.in_ok-end.was) ∙
    c.lay_name.ensures) in
    let r = (c.requires.5 (ap (λ (y : ℕ). get_or c.args.linked.firsts.now y 0) (sym c.name_at-name.ensures) ∙
    c.if-linked-name.false)).room in
    (omega (arith, c.requires.0), omega (arith, c.requires.4))

pub returns-in_err-end : goal.returns-in_err-end
unfolding end_names
returns-in_err-end c =
    ap (λ (r : Option Laid). end_names r c.args.out_mappings.now c.lay_name.new.out) c.from_residual.ensures ∙
    place_conflict _ _ _ _ _ _ _ _ _ c.lay_name.new.out _ _
    c.name_at-name.ensures c.if-linked-name.false
    (ap (λ (x : Option ℕ). ended_of x c.lay_name.new.out) (sym c.in_err-end.was) ∙ c.lay_name.ensures)

pub returns : goal.returns
unfolding end_names
returns c =
    place_laid _ _ _ _ _ _ _ _ _ _ c.lay_name.new.out _ _ _ _ c.name_at-name.ensures
    c.if-linked-name.false
    (ap (λ (x : Option ℕ). ended_of x c.lay_name.new.out) (sym c.in_ok-end.was) ∙
    c.lay_name.ensures) refl c.put_mapping.ensures
