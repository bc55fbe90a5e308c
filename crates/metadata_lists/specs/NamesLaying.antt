-- What the loop over all places needs, and what holds at each turn. Assumes nothing.
use Rattle.std.proofs.Math.Path.{◌≡◌, refl, ap}
use Rattle.std.proofs.Common.{◌∙◌}
use Rattle.std.specs.Prelude.{ℕ, ◌+◌, ◌*◌, ◌≤◌, ◌<◌, get_or, None, Some}
use native.Mathlib.Omega.{arith}
use mathlib.Core.List.{List, []}
use Rattle.std.proofs.Math.ListN.{length}
use Rattle.metadata_rules.specs.Walk.{Walked, conflict, laid}
use Rattle.metadata_rules.specs.Cases.{eqb_case}
use Rattle.metadata_rules.specs.Words.{name_at, count_at}
use Rattle.metadata_lists.specs.Flat.{lists_from, Linked}
use Rattle.metadata_lists.specs.Name.{outcome_at, Ready}
use Rattle.metadata_lists.specs.declared.names.Laid.{Laid}
use Rattle.metadata_lists.specs.Names.{Final, failed, placed, end_names, finish_one, step_at, collect_to, sums_to, finish_names, onward, walk_all_length, collect_end, sums_first, sums_skip, step_onward}

pub record AllReady (m : List ℕ) (e : ℕ) (v off nx head : List ℕ) (lt lm lo : ℕ) : Type 0 where
  pub words : 2 * e ≤ length m
  pub maps : 2 * e ≤ lm
  pub offs : e ≤ length off
  pub links : e ≤ length nx
  pub within : (t : ℕ) → t < e → 3 * (get_or off t 0 + count_at m t) ≤ length v
  pub linked : Linked m nx e
  pub heads : (t : ℕ) → t < e → name_at m t < length head
  pub small : lo < 4294967296
  pub room : 3 * sums_to m v off head e 0 ≤ lo
  pub space : 3 * sums_to m v off head e 0 ≤ lt

pub record Laying (m : List ℕ) (e : ℕ) (v off head om₀ om o₀ o : List ℕ) (i q k : ℕ) : Type 0 where
  pub upto : i ≤ e
  pub few : q ≤ i
  pub room : k + sums_to m v off head e i ≤ sums_to m v off head e 0
  pub maps : length om ≡ length om₀
  pub same : length o ≡ length o₀
  pub on : finish_names om q o k (collect_to m v off head e i) ≡ finish_names om₀ 0 o₀ 0 (collect_to m v off head e 0)

pub start_laying : (m : List ℕ) (e : ℕ) (v off head om o : List ℕ) → Laying m e v off head om om o o 0 0 0
start_laying m e v off head om o = record { upto = omega arith; few = omega arith; room = omega arith; maps = refl; same = refl; on = refl }

module _ (m : List ℕ) (e : ℕ) (v off nx head : List ℕ) (lt lm lo : ℕ) (r : AllReady m e v off nx head lt lm lo)
    (om₀ om o₀ o : List ℕ) (i q k : ℕ) (g : Laying m e v off head om₀ om o₀ o i q k) (h : i < e) where
  pub place_ready : (lt' lo' : ℕ) → lt' ≡ lt → lo' ≡ lo → get_or head (name_at m i) 0 ≡ i → Ready m e v off nx i lt' lo' k
  place_ready lt' lo' y z d =
      let s = sums_first m v off head e i h d in
      let a = g.room in
      let b = r.room in
      let c = r.space in
      record {
        inside = h;
        words = r.words;
        offs = r.offs;
        links = r.links;
        within = r.within;
        linked = r.linked;
        room = omega arith;
        space = omega arith;
      }

  one_bound : (w : Walked) → outcome_at m v off e i ≡ w → get_or head (name_at m i) 0 ≡ i → (om' o' : List ℕ) (q' k' : ℕ) → placed om' q' o' k' ≡ finish_one om q o k (name_at m i) w
      → (q' ≤ q + 1) × (k' + sums_to m v off head e (i + 1) ≤ k + sums_to m v off head e i)
  unfolding finish_one outcome_at
  one_bound conflict z d om' o' q' k' e' = let z : ◌≡◌ {A = ℕ} 0 1 = cc in absurd (omega arith)
  one_bound (laid s) z d om' o' q' k' e' =
      let a : q' ≡ q + 1 = cc in
      let b : k' ≡ k + length s = cc in
      let t = sums_first m v off head e i h d in
      let l = walk_all_length (lists_from m v off (name_at m i) i e) [] s z in
      (omega arith, omega arith)

  place_bound : (om' o' : List ℕ) (q' k' : ℕ) → placed om' q' o' k' ≡ step_at m v off head e i om q o k
      → (q' ≤ q + 1) × (k' + sums_to m v off head e (i + 1) ≤ k + sums_to m v off head e i)
  unfolding step_at
  place_bound om' o' q' k' w =
      eqb_case (λ (f : Final). placed om' q' o' k' ≡ f → (q' ≤ q + 1) × (k' + sums_to m v off head e (i + 1) ≤ k + sums_to m v off head e i))
      (get_or head (name_at m i) 0) i _ _ (λ d. one_bound (outcome_at m v off e i) refl d om' o' q' k') skip w
    where
      skip : (get_or head (name_at m i) 0 ≡ i → ⊥) → placed om' q' o' k' ≡ placed om q o k → (q' ≤ q + 1) × (k' + sums_to m v off head e (i + 1) ≤ k + sums_to m v off head e i)
      skip d u =
          let a : q' ≡ q = cc in
          let b : k' ≡ k = cc in
          let t = sums_skip m v off head e i h d in
          (omega arith, omega arith)

  pub turn_fails : (om' o' : List ℕ) → end_names None om' o' ≡ step_at m v off head e i om q o k → failed ≡ finish_names om₀ 0 o₀ 0 (collect_to m v off head e 0)
  unfolding end_names onward
  turn_fails om' o' w = ap (onward (collect_to m v off head e (i + 1))) w ∙ step_onward m v off head e i h om q o k ∙ g.on

  pub turn_lays : (om' o' : List ℕ) (l : Laid) → length om' ≡ length om → length o' ≡ length o → end_names (Some l) om' o' ≡ step_at m v off head e i om q o k
      → Laying m e v off head om₀ om' o₀ o' (i + 1) l.mappings l.intervals
  unfolding end_names onward
  turn_lays om' o' l a b w =
      let p = place_bound om' o' l.mappings l.intervals w in
      let x = g.few in
      let y = g.room in
      record {
        upto = omega arith;
        few = omega (arith, p.0);
        room = omega (arith, p.1);
        maps = a ∙ g.maps;
        same = b ∙ g.same;
        on = ap (onward (collect_to m v off head e (i + 1))) w ∙ step_onward m v off head e i h om q o k ∙ g.on;
      }

pub laying_end : (m : List ℕ) (e : ℕ) (v off head om₀ om o₀ o : List ℕ) (i q k : ℕ) → Laying m e v off head om₀ om o₀ o i q k → e ≤ i
    → placed om q o k ≡ finish_names om₀ 0 o₀ 0 (collect_to m v off head e 0)
laying_end m e v off head om₀ om o₀ o i q k g h = collect_end m v off head e i om q o k h ∙ g.on
