-- Each return has the one fact that decides it. Assumes nothing.
use borrow.Author.Rules.{rules}
use Rattle.lines.specs.Parts.{no_head, no_size, no_end, no_kind, size_there}
use Rattle.lines.proofs.parts.part_size.Goals as goal
use Rattle.lines.proofs.parts.part_size.Goals.{then-size-lt-PART_HEAD-via-then-size-lt-PART_HEAD, then-size-lt-PART_HEAD-via-else-size-lt-PART_HEAD+then-bytes-size, then-size-lt-PART_HEAD-via-else-size-lt-PART_HEAD+else-bytes-size+then-u16_at-kind}

pub returns-then-bytes-lt-PART_HEAD-clause-whole : goal.returns-then-bytes-lt-PART_HEAD-clause-whole
returns-then-bytes-lt-PART_HEAD-clause-whole c = search (rules, no_head)

pub returns-then-size-lt-PART_HEAD-clause-whole : goal.returns-then-size-lt-PART_HEAD-clause-whole
returns-then-size-lt-PART_HEAD-clause-whole c = elim c.then-size-lt-PART_HEAD.branch [
  | then-size-lt-PART_HEAD-via-then-size-lt-PART_HEAD w ↦ no_size _ _ c.u32_at-size.ensures w.if-size-lt-PART_HEAD.true
  | then-size-lt-PART_HEAD-via-else-size-lt-PART_HEAD+then-bytes-size w ↦ no_end _ _ c.u32_at-size.ensures w.if-bytes-size.true
  | then-size-lt-PART_HEAD-via-else-size-lt-PART_HEAD+else-bytes-size+then-u16_at-kind w ↦ no_kind _ _ w.u16_at.ensures w.if-u16_at-kind.true
]

pub returns-clause-whole : goal.returns-clause-whole
returns-clause-whole c = size_there _ _ c.u32_at-size.ensures c.u16_at.ensures c.if-size-lt-PART_HEAD.false c.if-bytes-size.false c.if-u16_at-kind.false
