-- What laying one name needs, and what holds at each turn. Assumes nothing.
use Rattle.std.specs.Prelude.{◌≡◌, ℕ, ◌+◌, ◌-◌, ◌*◌, ◌≤◌, ◌<◌, length, get_or, None, Some}
use Rattle.std.proofs.Math.Path.{refl, sym, ap}
use Rattle.std.proofs.Common.{◌∙◌, subst, arith}
use mathlib.Core.List.{List, [], ◌∷◌}
use Rattle.metadata_rules.specs.declared.Interval.{Interval}
use Rattle.metadata_rules.specs.Walk.{Walked, walk, walk_all}
use Rattle.metadata_words.specs.Words.{rest, rest_length, lay_intervals}
use Rattle.metadata_lists.specs.Heads.{finish, ended_of, held, conflicted}
use Rattle.metadata_rules.specs.Words.{name_at, count_at}
use Rattle.metadata_lists.specs.Flat.{list_at, lists_from, First, Linked, sum_len, lists_here, lists_first, lists_end}
use Rattle.metadata_lists.specs.NameHeld.{Gathered, more_conflict, more_laid, gathered_end}

unfoldable pub outcome_at : List ℕ → List ℕ → List ℕ → ℕ → ℕ → Walked
outcome_at m v off e i = walk_all [] (lists_from m v off (name_at m i) i e)

pub record Ready (m : List ℕ) (e : ℕ) (v off nx : List ℕ) (i lt lo k : ℕ) : Type 0 where
  pub inside : i < e
  pub words : 2 * e ≤ length m
  pub offs : e ≤ length off
  pub links : e ≤ length nx
  pub within : (t : ℕ) → t < e → 3 * (get_or off t 0 + count_at m t) ≤ length v
  pub linked : Linked m nx e
  pub room : 3 * (k + sum_len (lists_from m v off (name_at m i) i e)) ≤ lo
  pub space : 3 * sum_len (lists_from m v off (name_at m i) i e) ≤ lt

pub record Going (m v off : List ℕ) (e i : ℕ) (out₀ out : List ℕ) (lt k j n : ℕ) : Type 0 where
  pub name : j < e → name_at m j ≡ name_at m i
  pub upto : j ≤ e
  pub same : length out ≡ length out₀
  pub room : 3 * (k + n + sum_len (lists_from m v off (name_at m i) j e)) ≤ length out₀
  pub space : 3 * (n + sum_len (lists_from m v off (name_at m i) j e)) ≤ lt
  pub got : Gathered (lists_from m v off (name_at m i) j e) (outcome_at m v off e i) out₀ out k n

pub rest_list : (m v off : List ℕ) (t p c : ℕ) → p ≡ get_or off t 0 → c ≡ count_at m t → rest v p (p + c) ≡ list_at m v off t
unfolding rest list_at
rest_list m v off t p c d h =
    let z : (p + c) - p ≡ count_at m t = omega arith in
    rw (z, d) refl

pub list_length : (m v off : List ℕ) (t : ℕ) → length (list_at m v off t) ≡ count_at m t
list_length m v off t =
    let r = rest_length v (get_or off t 0) (get_or off t 0 + count_at m t) in
    let e : length (rest v (get_or off t 0) (get_or off t 0 + count_at m t)) ≡ length (list_at m v off t) = ap length (rest_list m v off t _ _ refl refl) in
    omega arith

module _ (m : List ℕ) (e : ℕ) (v off nx : List ℕ) (i lt lo k : ℕ) (r : Ready m e v off nx i lt lo k) where
  link : (t : ℕ) → t < e → name_at m t ≡ name_at m i → First m (name_at m i) (t + 1) e (get_or nx t 0)
  link t h d = subst (λ (n : ℕ). First m n (t + 1) e (get_or nx t 0)) d (r.linked t h)

  -- nothing is laid yet
  pub start_going : (v₀ : List ℕ) → lo ≡ length v₀ → Going m v off e i v₀ v₀ lt k i 0
  unfolding outcome_at lay_intervals
  start_going v₀ z =
      let a = r.room in
      let b = r.space in
      let c = r.inside in
      record {
        name = λ h. refl;
        upto = omega arith;
        same = refl;
        room = omega arith;
        space = omega arith;
        got = record { cur = []; there = refl; size = refl; on = refl };
      }

  module _ (out₀ out : List ℕ) (j n : ℕ) (g : Going m v off e i out₀ out lt k j n) (h : j < e)
      (t u : List ℕ) (z : lt ≡ length t) (copied : u ≡ lay_intervals t 0 (rest out k (k + n))) (p d : ℕ) (hp : p ≡ get_or off j 0) (hd : d ≡ count_at m j) where
    abbrev ls : List (List Interval)
    ls = lists_from m v off (name_at m i) (j + 1) e

    split : lists_from m v off (name_at m i) j e ≡ list_at m v off j ∷ ls
    split = lists_here m v off (name_at m i) e j h (g.name h)

    total : sum_len (lists_from m v off (name_at m i) j e) ≡ count_at m j + sum_len ls
    unfolding sum_len
    total = ap sum_len split ∙ ap (λ (c : ℕ). c + sum_len ls) (list_length m v off j)

    before : Gathered (list_at m v off j ∷ ls) (outcome_at m v off e i) out₀ out k n
    before = subst (λ (q : List (List Interval)). Gathered q (outcome_at m v off e i) out₀ out k n) split g.got

    fits : 3 * (k + n) ≤ length out₀
    fits = omega (arith, g.room)

    small : 3 * n ≤ length t
    small = omega (arith, g.space)

    pub turn_needs : (3 * (k + n + count_at m j) ≤ length out₀) × (3 * (n + count_at m j) ≤ length t)
    turn_needs = let a = g.room in let b = g.space in let c = total in (omega arith, omega arith)

    pub turn_conflict : (x : List ℕ) → ended_of None x ≡ finish out k (walk (rest u 0 n) (rest v p (p + d))) → conflicted ≡ finish out₀ k (outcome_at m v off e i)
    unfolding finish
    turn_conflict x w =
        sym (ap (finish out₀ k) (more_conflict (list_at m v off j) ls (outcome_at m v off e i) out₀ out k n before t u copied fits small x
        (w ∙ ap (λ (l : List Interval). finish out k (walk (rest u 0 n) l)) (rest_list m v off j p d hp hd))))

    pub turn_going : (x : List ℕ) (a s : ℕ) → ended_of (Some a) x ≡ finish out k (walk (rest u 0 n) (rest v p (p + d))) → length x ≡ length out → s ≡ get_or nx j 0
        → Going m v off e i out₀ x lt k s (a - k) × (k ≤ a)
    turn_going x a s w y hs =
        let o = more_laid (list_at m v off j) ls (outcome_at m v off e i) out₀ out k n before t u copied fits small x a
        (w ∙ ap (λ (l : List Interval). finish out k (walk (rest u 0 n) l)) (rest_list m v off j p d hp hd)) in
        let f : First m (name_at m i) (j + 1) e s = subst (First m (name_at m i) (j + 1) e) (sym hs) (link j h (g.name h)) in
        let q : ls ≡ lists_from m v off (name_at m i) s e = lists_first m v off (name_at m i) e (j + 1) s f in
        let b : sum_len ls ≡ sum_len (lists_from m v off (name_at m i) s e) = ap sum_len q in
        let l = list_length m v off j in
        let c = total in (
          record {
            name = f.here;
            upto = f.high;
            same = y ∙ g.same;
            room = omega (arith, g.room, o.1, o.2);
            space = omega (arith, g.space, o.1, o.2);
            got = subst (λ (k' : List (List Interval)). Gathered k' (outcome_at m v off e i) out₀ x k (a - k)) q o.0;
          },
          o.1,
        )

    pub turn_further : (s : ℕ) → s ≡ get_or nx j 0 → j < s
    turn_further s hs = let f = link j h (g.name h) in omega (arith, f.low)

  pub going_end : (out₀ out : List ℕ) (j n : ℕ) → Going m v off e i out₀ out lt k j n → e ≤ j → held out (k + n) ≡ finish out₀ k (outcome_at m v off e i)
  going_end out₀ out j n g h =
      gathered_end (outcome_at m v off e i) out₀ out k n
      (subst (λ (q : List (List Interval)). Gathered q (outcome_at m v off e i) out₀ out k n) (lists_end m v off (name_at m i) e j h) g.got)
