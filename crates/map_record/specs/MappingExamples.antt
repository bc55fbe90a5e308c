-- Mapping calls computed: the smallest inputs at each border of the rules' order. Assumes nothing.
use Rattle.std.specs.Prelude.{◌≡◌, refl, ℕ, ◌+◌, ◌*◌, ◌/◌, true, List, [], ◌∷◌, ◌++◌, length, replicate}
use Rattle.theory.specs.Answer.{answer}
use Rattle.theory.specs.Fields.{field, put_field}
use Rattle.leaves.specs.Frame.{mapped_in}
use Rattle.leaves_names.specs.Names.{name_start, name_of, names_from, names_of, is_name, stand_from, well_formed as wellFormedNames, list_fits, same, least, has_room as hasNameRoom, numbering, name_written}
use Rattle.leaves_utf8.specs.Utf8.{is_utf8, from_2, within, utf8_2}
use Rattle.map_rules.specs.Table.{room_fits, well_formed as wellFormedRows, ordered, all_known as allKnownRows}
use Rattle.map_rules.specs.Memory.{rows_from, table_fits}
use Rattle.map_point.specs.Entries.{entry_at, entries_from, put_entry, put_entries}
use Rattle.map_point.specs.Points.{points_fit, rising, all_known, well_formed, has_room, set_entry}
use Rattle.map_plan.specs.Wanted.{nothing, refuses, stores, wanted, judged}
use Rattle.map_record.specs.Mapping.{point_judged, time_judged, point_outcome, point_comes, bytes_then, ends_then, left_by}

-- a symbol mapping of instrument 7, with a name of less than 200 bytes and times below 256 or missing
time : ℕ → List ℕ
time t = t ∷ replicate 7 (t / 255 * 255)

mapping : ℕ → ℕ → List ℕ → List ℕ
unfolding time
mapping start end name =
    (32 + length name) ∷ 0 ∷ 2 ∷ 0 ∷ 7 ∷ 0 ∷ 0 ∷ 0 ∷ (replicate 8 0 ++ (time start ++ (time end ++ name)))

-- on an empty table over time with room for no interval, and a list with room for one name of 4 bytes: stored; start = end and
-- a missing start with end 0 are done; reversed gets 1, with a name that is not UTF-8 4
over_time : (time_judged [] 0 (replicate 4 0) (0 ∷ []) 0 0 (mapping 5 9 (65 ∷ [])) ≡ stores 7 5 9 0 true)
    × (time_judged [] 0 (replicate 4 0) (0 ∷ []) 0 0 (mapping 5 5 (65 ∷ [])) ≡ nothing)
    × (time_judged [] 0 (replicate 4 0) (0 ∷ []) 0 0 (mapping 255 0 (65 ∷ [])) ≡ nothing)
    × (time_judged [] 0 (replicate 4 0) (0 ∷ []) 0 0 (mapping 9 5 (65 ∷ [])) ≡ refuses (answer 1 []))
    × (time_judged [] 0 (replicate 4 0) (0 ∷ []) 0 0 (mapping 9 5 (255 ∷ [])) ≡ refuses (answer 4 []))
unfolding time_judged wanted judged table_fits room_fits list_fits wellFormedRows ordered allKnownRows rows_from wellFormedNames stand_from name_start mapped_in field is_name is_utf8 from_2 within utf8_2 numbering least names_of names_from name_of same hasNameRoom mapping
over_time = (refl, refl, refl, refl, refl)

-- with no room for a name: 1 comes before 5
over_time_full : (time_judged [] 0 [] [] 0 0 (mapping 9 5 (65 ∷ [])) ≡ refuses (answer 1 []))
    × (time_judged [] 0 [] [] 0 0 (mapping 5 5 (65 ∷ [])) ≡ nothing)
    × (time_judged [] 0 [] [] 0 0 (mapping 5 9 (65 ∷ [])) ≡ refuses (answer 5 []))
unfolding time_judged wanted judged table_fits room_fits list_fits wellFormedRows ordered allKnownRows rows_from wellFormedNames stand_from name_start mapped_in field is_name is_utf8 within numbering least names_of names_from name_of same hasNameRoom mapping
over_time_full = (refl, refl, refl)

-- on a point-in-time table, with room for no entry: reversed times set the entry all the same; with no room for a name 5
at_a_point : (point_judged [] 0 (replicate 4 0) (0 ∷ []) 0 0 (mapping 9 5 (65 ∷ [])) ≡ stores 7 9 5 0 true)
    × (point_judged [] 0 [] [] 0 0 (mapping 9 5 (65 ∷ [])) ≡ refuses (answer 5 []))
    × (point_judged (replicate 7 0) 0 [] [] 0 0 (mapping 9 5 (65 ∷ [])) ≡ refuses (answer 15 []))
unfolding point_judged wanted judged points_fit room_fits list_fits well_formed rising all_known entries_from wellFormedNames stand_from name_start mapped_in field is_name is_utf8 within numbering least names_of names_from name_of same hasNameRoom mapping
at_a_point = (refl, refl, refl)

-- a new name for an instrument in a full table: 2, and neither the table nor the list changes; for the instrument that it holds:
-- done, the name joins and the entry is replaced
full : (left_by [] [] [] 0 0 (65 ∷ []) (point_comes [] 0 (stores 7 9 5 0 true)) ≡ record { says = answer 2 []; table = []; bytes = []; ends = [] })
    × (left_by (7 ∷ replicate 7 0) (65 ∷ 0 ∷ []) (1 ∷ 0 ∷ []) 1 1 (66 ∷ []) (point_comes (7 ∷ replicate 7 0) 1 (stores 7 9 5 1 true))
    ≡ record { says = answer 0 (1 ∷ 2 ∷ 2 ∷ []); table = 7 ∷ 0 ∷ 0 ∷ 0 ∷ 1 ∷ 0 ∷ 0 ∷ 0 ∷ []; bytes = 65 ∷ 66 ∷ []; ends = 1 ∷ 2 ∷ [] })
unfolding left_by bytes_then ends_then point_comes point_outcome has_room set_entry entries_from entry_at field put_entries put_entry put_field name_written
full = (refl, refl)
