-- What the outcome of a merge asks, and ensures. Assumes nothing.
use Rattle.std.specs.Prelude.{◌≡◌, ℕ, ◌+◌, ◌*◌, ◌≤◌, ◌<◌, Bool, List, length, take}
use Rattle.std.proofs.Math.Path.{ap}
use Rattle.std.proofs.Common.{◌∙◌, arith}
use Rattle.metadata_rules.specs.Metadata.{opened, count_intervals, fields_of, agreed_merge}
use Rattle.metadata_plan.specs.Plan.{Planable, both_count, both_size, end_plan, plan_of, both_sides}
use Rattle.metadata_form.specs.declared.header.Header.{Header}
use Rattle.metadata_form.specs.declared.header.Lengths.{Lengths}
use Rattle.metadata_form.specs.Header.{MetadataFitting, Lists, lists, lengths_of, header_fields, metadata_of}
use Rattle.metadata_gather.specs.Sets.{IsUnited}
use Rattle.metadata_merge.specs.Outcome.{Planned, Verdict, rest_of, decide_of, given, Deciding, decided}

-- both sides of the form, and scratch t for both at the limits
pub record Plannable (names : ℕ) (h : Header) (l : Lists) (g : Header) (r t : Lists) : Type 0 where
  pub few_names : names ≤ 4096
  pub left_fitting : MetadataFitting h (lengths_of l) l.mappings
  pub right_fitting : MetadataFitting g (lengths_of r) r.mappings
  pub room_a : length t.symbols ≡ 8192
  pub room_b : length t.partial ≡ 8192
  pub room_c : length t.not_found ≡ 8192
  pub room_m : length t.mappings ≡ 16384
  pub room_v : length t.intervals ≡ 393216

unfoldable pub Outcomes : ℕ → Header → Lists → Header → Lists → Verdict → Lists → Type 0
Outcomes names h l g r v t =
    Deciding (agreed_merge (given names l) (opened (metadata_of h l)) (metadata_of g r)) (fields_of (header_fields h) (header_fields g)) (lengths_of l) v t

module _ {names : ℕ} {h : Header} {l : Lists} {g : Header} {r t : Lists} (p : Plannable names h l g r t) where
  pub planable : Planable l.mappings h.mappings l.intervals r.mappings g.mappings r.intervals names (length t.mappings) (length t.intervals)
  planable =
      let a = p.left_fitting.fit in let b = p.right_fitting.fit in
      let c = p.left_fitting.sum in let d = p.right_fitting.sum in
      let e = a.maps_lent in let f = a.maps_used in let i = a.spans_lent in let j = a.spans_whole in
      let k = b.maps_lent in let m = b.maps_used in let n = b.spans_lent in let o = b.spans_whole in
      record {
        sides = record {
          left_words = f;
          left_count_lem = omega arith;
          left_spans = omega arith;
          right_words = m;
          right_count_lem = omega arith;
          right_spans = omega arith;
        };
        few_spans = omega arith;
        few_names = p.few_names;
        maps = p.room_m;
        room = p.room_v;
      }

  all_few : 2 * length (both_sides l.mappings h.mappings l.intervals r.mappings g.mappings r.intervals) ≤ length t.mappings
  all_few =
      let a = both_count l.mappings h.mappings l.intervals r.mappings g.mappings r.intervals in
      let b = planable.sides.left_count_lem in let c = planable.sides.right_count_lem in let d = p.room_m in
      omega arith

  all_short : 3 * count_intervals (both_sides l.mappings h.mappings l.intervals r.mappings g.mappings r.intervals) ≤ length t.intervals
  all_short =
      let a = both_size l.mappings h.mappings l.intervals r.mappings g.mappings r.intervals in
      let b = planable.few_spans in let d = p.room_v in
      omega arith

  -- the whole outcome from the calls' answers
  pub outcomes : (ka : Bool) (ca : ℕ) (ta : List ℕ) → IsUnited (take h.symbols l.symbols) (take g.symbols r.symbols) names ka ca ta
      → (kb : Bool) (cb : ℕ) (tb : List ℕ) → IsUnited (take h.partial l.partial) (take g.partial r.partial) names kb cb tb
      → (kc : Bool) (cd : ℕ) (tc : List ℕ) → IsUnited (take h.not_found l.not_found) (take g.not_found r.not_found) names kc cd tc
      → (rest : Bool) → rest ≡ rest_of names h g ka kb kc
      → (q : Planned) (om out : List ℕ) → end_plan q om out ≡ plan_of names rest (both_sides l.mappings h.mappings l.intervals r.mappings g.mappings r.intervals) t.mappings t.intervals
      → (len : Lengths) → len ≡ lengths_of l → (v : Verdict) → v ≡ decide_of q ca cb cd len → Outcomes names h l g r v (lists ta tb tc om out)
  unfolding Outcomes
  outcomes ka ca ta a kb cb tb b kc cd tc c rest e q om out f len n v d =
      decided names h l g r ka ca ta kb cb tb kc cd tc (record { symbols = a; partial = b; not_found = c }) t.mappings t.intervals om out
      all_few all_short rest e q f v (d ∙ ap (decide_of q ca cb cd) n)
