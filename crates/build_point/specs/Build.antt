-- The point-in-time build on lent memory: what it answers, and what the table then holds (RULES, The map over time).
use Rattle.std.specs.Prelude.{ℕ, ◌/◌, cond, List, length, replicate}
use Rattle.theory.specs.Answer.{Answer}
use Rattle.leaves_names.specs.Names.{names_of, well_formed}
use Rattle.map_point.specs.declared.entries.Entry.{Entry}
use Rattle.map_point.specs.Entries.{put_entries}
use Rattle.map_point.specs.Points.{points_fit}
use Rattle.metadata_form.specs.declared.header.Header.{Header}
use Rattle.metadata_form.specs.Header.{Lists, lengths_of, metadata_of}
use Rattle.build_rules.specs.OverTime.{Build, stopped, built, build_answer}
use Rattle.build_rules.specs.PointInTime.{point_in_time}
use Rattle.build_rules.specs.Call.{build_fits}

-- the build: 15, 14 for the name list, then the metadata's for the asked date. Of the table only its size counts: "a build discards what
-- the table held and never gives 14 for it"
unfoldable pub point_build : ℕ → Header → Lists → List ℕ → List ℕ → ℕ → ℕ → ℕ → Build Entry
unfolding build_fits point_in_time
point_build size h l bytes ends names name_bytes date =
    cond (build_fits (points_fit size 0) h (lengths_of l) l.mappings (length bytes) (length ends) names name_bytes)
    (cond (well_formed bytes ends names name_bytes) (point_in_time (size / 8) (names_of bytes ends names) (metadata_of h l) date) (stopped 14 0 0))
    (stopped 15 0 0)

unfoldable pub point_in_time_answer : ℕ → Header → Lists → List ℕ → List ℕ → ℕ → ℕ → ℕ → Answer
unfolding point_build build_answer
point_in_time_answer size h l bytes ends names name_bytes date = build_answer (point_build size h l bytes ends names name_bytes date)

-- what the table holds after a build: refused, 0 everywhere ("by 15 too"); done, the entries from the front and 0 in every other place
unfoldable pub built_memory : ℕ → Build Entry → List ℕ
built_memory size (stopped c t k) = replicate size 0
built_memory size (built es) = put_entries (replicate size 0) 0 es

unfoldable pub point_in_time_memory : ℕ → Header → Lists → List ℕ → List ℕ → ℕ → ℕ → ℕ → List ℕ
unfolding point_build built_memory
point_in_time_memory size h l bytes ends names name_bytes date = built_memory size (point_build size h l bytes ends names name_bytes date)
