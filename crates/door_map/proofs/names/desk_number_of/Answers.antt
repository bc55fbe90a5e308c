-- Each arm of the match is what its case says. Assumes nothing.
use Rattle.door_answers.specs.AnswersLaws.{done_number, done_value, not_number, not_value}
use Rattle.door_map.proofs.names.desk_number_of.Goals as goal

pub returns-in-Ok-clause-value : goal.returns-in-Ok-clause-value
returns-in-Ok-clause-value c = done_number c.in-Ok.ensures.answer

pub returns-in-Ok-clause-symbol_after : goal.returns-in-Ok-clause-symbol_after
returns-in-Ok-clause-symbol_after c = done_value c.args.symbol.now 0 c.in-Ok.ensures.answer

pub returns-in-Ok-clause-names_after : goal.returns-in-Ok-clause-names_after
returns-in-Ok-clause-names_after c = done_value c.args.names.now 1 c.in-Ok.ensures.answer

pub returns-in-Ok-clause-name_bytes_after : goal.returns-in-Ok-clause-name_bytes_after
returns-in-Ok-clause-name_bytes_after c = done_value c.args.name_bytes.now 2 c.in-Ok.ensures.answer

pub returns-in-Err-clause-value : goal.returns-in-Err-clause-value
returns-in-Err-clause-value c = not_number c.in-Err.refusal c.number.ensures c.in-Err.ensures.answer

pub returns-in-Err-clause-symbol_after : goal.returns-in-Err-clause-symbol_after
returns-in-Err-clause-symbol_after c = not_value c.in-Err.refusal c.args.symbol.now 0 c.in-Err.ensures.answer

pub returns-in-Err-clause-names_after : goal.returns-in-Err-clause-names_after
returns-in-Err-clause-names_after c = not_value c.in-Err.refusal c.args.names.now 1 c.in-Err.ensures.answer

pub returns-in-Err-clause-name_bytes_after : goal.returns-in-Err-clause-name_bytes_after
returns-in-Err-clause-name_bytes_after c = not_value c.in-Err.refusal c.args.name_bytes.now 2 c.in-Err.ensures.answer
