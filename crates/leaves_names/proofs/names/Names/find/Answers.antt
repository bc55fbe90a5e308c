-- What is left to look at from name n on is what there was to look at. Assumes nothing.
use Rattle.std.specs.Prelude.{ℕ, List, ◌≡◌, ◌≤◌, ◌<◌, length, get_or, take}
use mathlib.Core.Path.{refl, sym}
use native.Mathlib.Omega.{arith}
use Rattle.std.proofs.Common.{length-take-le, get_or-take}
use Rattle.leaves_names.specs.Names.{name_start, Ordered}
use Rattle.leaves_names.specs.NamesLaws.{seek_none, seek_turn, seek_found, seek_end, part_same, part_other}
use Rattle.leaves_names.specs.NamesList.{names_length}
use Rattle.leaves_names.specs.NamingLaws.{found_some, found_none}
use Rattle.leaves_names.proofs.names.Names.find.Goals as goal

module _ (bytes ends : List ℕ) (names : ℕ) (o : Ordered bytes ends names) where
  used : names ≡ length (take names ends)
  used = sym (length-take-le names ends o.places)

  module _ (start n : ℕ) (begins : start ≡ name_start ends n) (h : n < length (take names ends)) where
    below : n < names
    below = omega (arith, used)

    end : get_or (take names ends) n 0 ≡ get_or ends n 0
    end = get_or-take names ends n 0 below

    apart : start ≤ get_or (take names ends) n 0
    apart = omega (arith, end, o.rising n below)

    inside : get_or (take names ends) n 0 ≤ length bytes
    inside = omega (arith, end, o.inside n below)

pub slice_bounds-last-items-end : goal.slice_bounds-last-items-end
slice_bounds-last-items-end c = let l = c.args.self.list in used l.bytes.now l.ends.now l.names c.args.self.ordered

pub loop-n-init : goal.loop-n-init
loop-n-init c = seek_none _ _ _ _

pub slice_bounds-eq-count : goal.slice_bounds-eq-count
slice_bounds-eq-count c = apart _ _ _ c.args.self.ordered _ _ c.loop-n.invariant.begins c.loop-n-test.true

pub slice_bounds-eq-start : goal.slice_bounds-eq-start
slice_bounds-eq-start c = apart _ _ _ c.args.self.ordered _ _ c.loop-n.invariant.begins c.loop-n-test.true

pub slice_bounds-eq-end : goal.slice_bounds-eq-end
slice_bounds-eq-end c = inside _ _ _ c.args.self.ordered _ _ c.loop-n.invariant.begins c.loop-n-test.true

pub returns-then-eq : goal.returns-then-eq
returns-then-eq c =
    let l = c.args.self.list in
    let h = below l.bytes.now l.ends.now l.names c.args.self.ordered _ _ c.loop-n.invariant.begins c.loop-n-test.true in
    found_some _ _ (seek_found c.loop-n.invariant h (get_or-take l.names l.ends.now c.loop-n.n 0 h) (sym (part_same l.bytes.now c.args.text.now c.loop-n.start _ c.eq.ensures c.if-eq.true)) refl)
    (omega (arith, names_length l.bytes.now l.ends.now l.names))

pub loop-n-preserved : goal.loop-n-preserved
loop-n-preserved c =
    let l = c.args.self.list in
    let h = below l.bytes.now l.ends.now l.names c.args.self.ordered _ _ c.loop-n.invariant.begins c.loop-n-test.true in
    seek_turn c.loop-n.invariant h (get_or-take l.names l.ends.now c.loop-n.n 0 h) (sym (part_other l.bytes.now c.args.text.now c.loop-n.start _ c.eq.ensures c.if-eq.false)) refl

pub returns : goal.returns
returns c =
    let l = c.args.self.list in
    let e = used l.bytes.now l.ends.now l.names c.args.self.ordered in
    let h : l.names ≤ c.loop-n.n = omega (arith, c.loop-n-test.false) in
    found_none _ _ (seek_end c.loop-n.invariant h) (omega (arith, names_length l.bytes.now l.ends.now l.names))
