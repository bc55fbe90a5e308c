-- The loop's invariant: the first i places of each array are laid. Assumes nothing.
use borrow.Author.Rules.{rules}
use borrow.Author.Tests.{lt-ltb, le-ltb}
use Rattle.records_rules.specs.Opening.{mark_at, number_at, laying_step}
use Rattle.records_state.proofs.state.State.lay_streams.Goals.{then-i-streams, else-i-streams, then-i-streams-2, else-i-streams-2}
use Rattle.records_state.proofs.state.State.lay_streams.Goals as goal

pub loop-i-preserved : goal.loop-i-preserved
unfolding mark_at number_at
loop-i-preserved c =
    record {
      laying = laying_step _ _ _ c.requires
          c.loop-i.invariant.laying c.loop-i-test.true
          (elim c.if-i-streams.branch [
            | then-i-streams w ↦ rw w.self-is (simp (lt-ltb _ _ w.if-i-streams.true))
            | else-i-streams w ↦ rw w.self-is (simp (le-ltb _ _ w.if-i-streams.false))
          ])
          c.entry_or_zero.ensures
          (elim c.if-i-streams-2.branch [
            | then-i-streams-2 w ↦ rw w.self-is (simp (lt-ltb _ _ w.if-i-streams-2.true))
            | else-i-streams-2 w ↦ rw w.self-is (simp (le-ltb _ _ w.if-i-streams-2.false))
          ]);
      memory = search rules;
    }
