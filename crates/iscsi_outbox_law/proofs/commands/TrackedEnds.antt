-- Places and trails, as a command isn't kept any more.
use Rattle.std.proofs.Common.{◌≡◌, ◌≢◌, ℕ, zero, suc, ◌+◌, ◌<◌, ◌≤◌, ◌||◌, ◌⊎◌, inl, inr, not, cond, Bool, true, false, List, [], ◌∷◌, ◌++◌, length, map, filter, Option, Some, None, refl, ap, sym, ◌∙◌, arith, ne_eqb}
use Rattle.std.specs.List.{find, list_any}
use Rattle.std.proofs.lemmas.Bool.{cases_eq, eqb-false, eqb-true, false≢true, true≢false}
use Rattle.std.proofs.lemmas.List.{length-map, length_push}
use Rattle.iscsi_slots.specs.Slots.{times}
use Rattle.iscsi_slots.proofs.SlotLemmas.{times_append}
use Rattle.iscsi_lists.specs.Lists.{times_in, without}
use Rattle.iscsi_lists.proofs.PlaceLemmas.{nth_map}
use Rattle.iscsi_lists.proofs.WithoutLemmas.{times_in_other, times_in_without, times_other, times_same, times_without_other}
use Rattle.iscsi_tracked.specs.declared.command.Command.{Command}
use Rattle.iscsi_tracked.specs.Tracked.{Tracked, has_place, is_at, removed, trail_at}
use Rattle.iscsi_outbox_law.specs.private.Pairs.{EachOf, InOrder}
use Rattle.iscsi_outbox_law.specs.private.Commands.{ArePlaced, AreTrails, IsTrailed, out_place}
use Rattle.iscsi_outbox_law.proofs.general.PairLemmas.{each-filter, each-weaken}
use Rattle.iscsi_outbox_law.proofs.commands.TrackedLemmas.{onward_without, out_of}

-- ---- lists

pub order_filter : {A : Type 0} (R : A → A → Type 0) (p : A → Bool) (xs : List A) → InOrder R xs → InOrder R (filter p xs)
order_filter R p [] h = tt
order_filter R p (x ∷ xs) h =
    let rest : InOrder R (filter p xs) = order_filter R p xs h.1 in
    let first : EachOf (R x) (filter p xs) = each-filter (R x) p xs h.0 in
    elim (p x) as (λ v. InOrder R (cond v (x ∷ filter p xs) (filter p xs))) [ true ↦ (first, rest) | false ↦ rest ]

-- those in other places
abbrev pub others : ℕ → List Command → List Command
others place cs = filter (λ (c : Command). not (is_at place c)) cs

pub other_has : (place n : ℕ) (cs : List Command) → (n ≡ place → ⊥) → list_any (is_at n) (others place cs) ≡ list_any (is_at n) cs
other_has place n [] apart = refl
other_has place n (c ∷ cs) apart =
    let rest = other_has place n cs apart in
    elim (is_at place c) as (λ v. is_at place c ≡ v → list_any (is_at n) (cond (not v) (c ∷ others place cs) (others place cs)) ≡ (is_at n c || list_any (is_at n) cs)) [
      | true ↦ λ here. rest ∙ sym (ap (λ (w : Bool). w || list_any (is_at n) cs) (ne_eqb c.place n (λ same. apart (sym same ∙ eqb-true c.place place here))))
      | false ↦ λ there. ap (λ (w : Bool). is_at n c || w) rest
    ] refl

pub none_has : (place : ℕ) (cs : List Command) → list_any (is_at place) (others place cs) ≡ false
none_has place [] = refl
none_has place (c ∷ cs) =
    let rest = none_has place cs in
    elim (is_at place c) as (λ v. is_at place c ≡ v → list_any (is_at place) (cond (not v) (c ∷ others place cs) (others place cs)) ≡ false) [
      | true ↦ λ here. rest
      | false ↦ λ there. ap (λ (w : Bool). w || list_any (is_at place) (others place cs)) there ∙ rest
    ] refl

pub other_find : (place n : ℕ) (cs : List Command) → (n ≡ place → ⊥) → find (is_at n) (others place cs) ≡ find (is_at n) cs
other_find place n [] apart = refl
other_find place n (c ∷ cs) apart =
    let rest = other_find place n cs apart in
    elim (is_at place c) as (λ v. is_at place c ≡ v → find (is_at n) (cond (not v) (c ∷ others place cs) (others place cs)) ≡ cond (is_at n c) (Some c) (find (is_at n) cs)) [
      | true ↦ λ here. rest ∙ sym (ap (λ (w : Bool). cond w (Some c) (find (is_at n) cs)) (ne_eqb c.place n (λ same. apart (sym same ∙ eqb-true c.place place here))))
      | false ↦ λ there. ap (λ (x : Option Command). cond (is_at n c) (Some c) x) rest
    ] refl

pub none_find : (place : ℕ) (cs : List Command) → find (is_at place) (others place cs) ≡ None
none_find place [] = refl
none_find place (c ∷ cs) =
    let rest = none_find place cs in
    elim (is_at place c) as (λ v. is_at place c ≡ v → find (is_at place) (cond (not v) (c ∷ others place cs) (others place cs)) ≡ None) [
      | true ↦ λ here. rest
      | false ↦ λ there. ap (λ (w : Bool). cond w (Some c) (find (is_at place) (others place cs))) there ∙ rest
    ] refl

-- all of them, where none is in that place
pub all_others : (place : ℕ) (cs : List Command) → EachOf (λ (c : Command). c.place ≡ place → ⊥) cs → others place cs ≡ cs
all_others place [] h = refl
all_others place (c ∷ cs) h = ap (λ (v : Bool). cond (not v) (c ∷ others place cs) (others place cs)) (ne_eqb c.place place h.0) ∙ ap (λ xs. c ∷ xs) (all_others place cs h.1)

-- one fewer
pub fewer : (place : ℕ) (cs : List Command) → InOrder (λ (c d : Command). c.place ≢ d.place) cs → list_any (is_at place) cs ≡ true → length (others place cs) + 1 ≡ length cs
fewer place [] apart some = absurd (false≢true some)
fewer place (c ∷ cs) apart some =
    let rest : list_any (is_at place) cs ≡ true → length (others place cs) + 1 ≡ length cs = fewer place cs apart.1 in
    let alone : c.place ≡ place → others place cs ≡ cs = λ same. all_others place cs (each-weaken (λ (d : Command). c.place ≢ d.place) (λ (d : Command). d.place ≡ place → ⊥) cs (λ d other e. other (same ∙ sym e)) apart.0) in
    elim (is_at place c) as (λ v. is_at place c ≡ v → (v || list_any (is_at place) cs) ≡ true → length (cond (not v) (c ∷ others place cs) (others place cs)) + 1 ≡ suc (length cs)) [
      | true ↦ λ here k. (let e = ap length (alone (eqb-true c.place place here)) in omega (arith, e))
      | false ↦ λ there k. (let e = rest k in omega (arith, e))
    ] refl some

-- ---- a command isn't kept any more

pub placed_removed : (place : ℕ) (v : Tracked) → has_place place v ≡ true → ArePlaced v → ArePlaced (removed place v)
placed_removed place v there h = record {
  ascending = order_filter (λ (c d : Command). c.ticket < d.ticket) (λ (c : Command). not (is_at place c)) v.commands h.ascending;
  newest = each-filter (λ (c : Command). c.ticket ≤ v.last) (λ (c : Command). not (is_at place c)) v.commands h.newest;
  apart = order_filter (λ (c d : Command). c.place ≢ d.place) (λ (c : Command). not (is_at place c)) v.commands h.apart;
  counted = omega (arith, h.counted, fewer place v.commands h.apart there, length_push v.free place);
  unused = λ n some. unused_now n some (cases_eq n place);
  free_once = λ n. once_now n (cases_eq n place);
}
  where
    unused_now : (n : ℕ) → 1 ≤ times n (v.free ++ place ∷ []) → (n ≡ place) ⊎ (n ≡ place → ⊥) → list_any (is_at n) (others place v.commands) ≡ false
    unused_now n some (inl same) = ap (λ k. list_any (is_at k) (others place v.commands)) same ∙ none_has place v.commands
    unused_now n some (inr apart) =
        other_has place n v.commands apart
        ∙ h.unused n (let e = times_append n v.free (place ∷ []) in let f = times_other n place [] (λ same. apart (sym same)) in omega (arith, some, e, f))

    not_free : times place v.free ≡ 0
    not_free = by_count (times place v.free) refl
      where
        by_count : (k : ℕ) → times place v.free ≡ k → times place v.free ≡ 0
        by_count zero is = is
        by_count (suc k) is = absurd (true≢false (sym there ∙ h.unused place (omega (arith, is))))

    once_now : (n : ℕ) → (n ≡ place) ⊎ (n ≡ place → ⊥) → times n (v.free ++ place ∷ []) ≤ 1
    once_now n (inl same) = (let e = times_append n v.free (place ∷ []) in let f = times_same n place [] (sym same) in let g = ap (λ k. times k v.free) same in let k = not_free in omega (arith, e, f, g, k))
    once_now n (inr apart) = (let e = times_append n v.free (place ∷ []) in let f = times_other n place [] (λ same. apart (sym same)) in let g = h.free_once n in omega (arith, e, f, g))

pub trails_removed : (place : ℕ) (v : Tracked) → AreTrails v → AreTrails (removed place v)
trails_removed place v h = record {
  trailed = each_other v.commands h.trailed;
  of_one = λ n some. one_now n some (cases_eq n place);
  onward = onward_without (out_place v) (out_place (removed place v)) place (λ p apart. ap out_of (other_find place p v.commands apart)) v.trails h.onward;
}
  where
    kept_trail : (c : Command) → (c.place ≡ place → ⊥) → IsTrailed v c → IsTrailed (removed place v) c
    kept_trail c apart t =
        let same : times_in c.place (map (without place) v.trails) ≡ times_in c.place v.trails = times_in_other place c.place v.trails apart in
        record {
          conn = omega (arith, t.conn, length-map v.trails (without place));
          out = λ is. ap (times c.place) (nth_map place c.conn v.trails) ∙ times_without_other place c.place (trail_at v c.conn) apart ∙ t.out is;
          idle = λ is. same ∙ t.idle is;
          once = omega (arith, same, t.once);
        }

    each_other : (cs : List Command) → EachOf (IsTrailed v) cs → EachOf (IsTrailed (removed place v)) (others place cs)
    each_other [] k = tt
    each_other (c ∷ cs) k =
        let rest : EachOf (IsTrailed (removed place v)) (others place cs) = each_other cs k.1 in
        elim (is_at place c) as (λ w. is_at place c ≡ w → EachOf (IsTrailed (removed place v)) (cond (not w) (c ∷ others place cs) (others place cs))) [
          | true ↦ λ here. rest
          | false ↦ λ there. (kept_trail c (eqb-false c.place place there) k.0, rest)
        ] refl

    one_now : (n : ℕ) → 1 ≤ times_in n (map (without place) v.trails) → (n ≡ place) ⊎ (n ≡ place → ⊥) → list_any (is_at n) (others place v.commands) ≡ true
    one_now n some (inl same) = absurd (let none = times_in_without place v.trails in let e = ap (λ k. times_in k (map (without place) v.trails)) same in omega (arith, some, none, e))
    one_now n some (inr apart) = other_has place n v.commands apart ∙ h.of_one n (let e = times_in_other place n v.trails apart in omega (arith, some, e))
