-- What the items of an event enable: how many are live behind it.
use Rattle.std.proofs.Common.{◌≡◌, ℕ, ◌+◌, ◌<◌, ◌≤◌, ◌==◌, ◌&&◌, ◌||◌, ⊎_elim, not, cond, Bool, true, false, List, [], ◌∷◌, ◌++◌, length, count_by, filter, filter_map, refl, ap, sym, subst, ◌∙◌, arith}
use Rattle.std.specs.List.{list_any}
use Rattle.std.proofs.lemmas.Bool.{eq-eqb, eqb-true, false≢true}
use Rattle.std.proofs.lemmas.List.{append-nil, append_assoc}
use Rattle.std.proofs.lemmas.List.Sums.{sum_by-append}
use Rattle.iscsi_rules.specs.rules.Run.{newly_enabled}
use Rattle.iscsi_rules.specs.rules.Settings.{Setting}
use Rattle.iscsi_rules.specs.rules.Trace.{Command, Mark, Trace, after_items, are_apart, entered, enters, has, is_among, is_free_at, leaves_ticket, live, was_free}
use Rattle.iscsi_rules.proofs.general.BoolLemmas.{and_parts, or_none}
use Rattle.iscsi_rules.proofs.general.CountLemmas.{one, count-cons, count-filter, count-weaker}
use Rattle.iscsi_rules.proofs.general.ElementLemmas.{In, append-in_second, in-append}
use Rattle.iscsi_rules.proofs.traces.NewlyLemmas.{never_free}
use Rattle.iscsi_outbox_rules.specs.rules.Words.{contains}
use Rattle.iscsi_outbox_law.specs.private.Pairs.{EachOf}
use Rattle.iscsi_ffi_law.proofs.completions.DoneCounts.{newly_counted}
use Rattle.iscsi_ffi_law.proofs.completions.DoneShape.{IsNew, new_ones}
use Rattle.iscsi_ffi_law.proofs.events.EventRules.{entered_later, free_later, news_of}
use Rattle.iscsi_ffi_law.proofs.requests.Kept.{count_members, count_nothing}
use Rattle.iscsi_ffi_law.proofs.general.Members.{any_in, each_in, in_any, in_each}
use Rattle.iscsi_ffi_law.proofs.commands.Stopping.{count_sum}

abbrev pub has_left : Trace → Command → Bool
has_left t c = has (leaves_ticket c.ticket) t

-- what left stays so
pub left_later : (items : List (List Mark)) (t : Trace) (k : ℕ) → has (leaves_ticket k) (after_items items t) ≡ false → has (leaves_ticket k) t ≡ false
left_later [] t k lives = lives
left_later (item ∷ items) t k lives = (or_none (list_any (leaves_ticket k) item) (has (leaves_ticket k) t) (left_later items (item ∷ t) k lives)).1

-- those that enter by these items
abbrev pub entered_by : List (List Mark) → List Command
entered_by [] = []
entered_by (item ∷ items) = filter_map enters item ++ entered_by items

pub entered_is : (items : List (List Mark)) (t : Trace) → entered (after_items items t) ≡ entered t ++ entered_by items
entered_is [] t = sym (append-nil (entered t))
entered_is (item ∷ items) t = entered_is items (item ∷ t) ∙ append_assoc (entered t) (filter_map enters item) (entered_by items)

-- no ticket stands in both
pub apart_both : (xs ys : List Command) → are_apart (xs ++ ys) ≡ true → (c : Command) → In c ys → is_among c.ticket xs ≡ false
apart_both xs ys apart c there = by_test (is_among c.ticket xs) refl
  where
    twice : (zs : List Command) → are_apart (zs ++ ys) ≡ true → (d : Command) → In d zs → d.ticket ≡ c.ticket → ⊥
    twice [] h d at same = at
    twice (z ∷ zs) h d at same =
        let parts = and_parts (not (is_among z.ticket (zs ++ ys))) (are_apart (zs ++ ys)) h in
        ⊎_elim
        (λ (here : z ≡ d). false≢true (ap not (sym (in_any (λ (e : Command). e.ticket == z.ticket) (zs ++ ys) c (append-in_second zs ys c there) (eq-eqb c.ticket z.ticket (sym same ∙ ap (λ (e : Command). e.ticket) (sym here))))) ∙ parts.0))
        (λ later. twice zs parts.1 d later same) at

    by_test : (v : Bool) → is_among c.ticket xs ≡ v → v ≡ false
    by_test false is = refl
    by_test true is = let x = any_in (λ (d : Command). d.ticket == c.ticket) xs is in absurd (twice xs apart x.x x.there (eqb-true x.x.ticket c.ticket x.passes))

module _ (o : Setting) where
  -- one that is free had entered
  free_entered : (items : List (List Mark)) (t : Trace) → are_apart (entered (after_items items t)) ≡ true → (c : Command) → In c (entered (after_items items t)) → was_free c t ≡ true → In c (entered t)
  free_entered items t apart c there free =
      ⊎_elim
      (λ before. before)
      (λ later. absurd (false≢true (sym (never_free c t (apart_both (entered t) (entered_by items) (ap are_apart (sym (entered_is items t)) ∙ apart) c later)) ∙ free)))
      (in-append (entered t) (entered_by items) c (subst (In c) (entered_is items t) there))

  module _ (t' : Trace) (q : Command → Bool) (lives : (c : Command) → q c ≡ true → has_left t' c ≡ false) where
    abbrev new_since : Trace → Command → Bool
    new_since t c = (was_free c t' && not (was_free c t)) && q c

    -- what one item enables, among all
    item_counted : (items : List (List Mark)) (t : Trace) (item : List Mark) → after_items items (item ∷ t) ≡ t' → are_apart (entered t') ≡ true → EachOf (λ (c : Command). c.unit < o.units) (entered t')
        → count_by q (newly_enabled o t item) ≡ count_by (λ (c : Command). (was_free c (item ∷ t) && not (was_free c t)) && q c) (entered t')
    item_counted items t item is apart units =
        let all = newly_counted o t item units_then q in
        let filtered = count-filter p (λ (c : Command). not (has_left (item ∷ t) c)) (entered (item ∷ t)) in
        let same = count_members (λ (c : Command). not (has_left (item ∷ t) c) && p c) p (entered (item ∷ t)) (λ c there. alive c (q c) refl) in
        let whole = ap (count_by p) (ap entered (sym is) ∙ entered_is items (item ∷ t)) in
        let both = sum_by-append (λ (c : Command). cond (p c) 1 0) (entered (item ∷ t)) (entered_by items) in
        let none = count_nothing p (entered_by items) (λ c there. barred c there) in
        omega (arith, all, filtered, same, whole, both, none)
      where
        p : Command → Bool
        p c = (was_free c (item ∷ t) && not (was_free c t)) && q c

        units_then : EachOf (λ (c : Command). c.unit < o.units) (entered (item ∷ t))
        units_then = in_each (λ (c : Command). c.unit < o.units) (entered (item ∷ t)) (λ c there. each_in (λ (d : Command). d.unit < o.units) (entered t') c (subst (λ u. In c (entered u)) is (entered_later items (item ∷ t) c there)) units)

        false_last : (u : Bool) → (u && false) ≡ false
        false_last true = refl
        false_last false = refl

        alive : (c : Command) (v : Bool) → q c ≡ v → (not (has_left (item ∷ t) c) && p c) ≡ p c
        alive c true it = ap (λ u. not u && p c) (left_later items (item ∷ t) c.ticket (ap (has (leaves_ticket c.ticket)) is ∙ lives c it))
        alive c false it =
            ap (λ u. not (has_left (item ∷ t) c) && ((was_free c (item ∷ t) && not (was_free c t)) && u)) it
            ∙ ap (λ u. not (has_left (item ∷ t) c) && u) (false_last (was_free c (item ∷ t) && not (was_free c t))) ∙ false_last (not (has_left (item ∷ t) c))
            ∙ sym (ap (λ u. (was_free c (item ∷ t) && not (was_free c t)) && u) it ∙ false_last (was_free c (item ∷ t) && not (was_free c t)))

        barred : (c : Command) → In c (entered_by items) → p c ≡ false
        barred c there = ap (λ u. (u && not (was_free c t)) && q c) (never_free c (item ∷ t) (apart_both (entered (item ∷ t)) (entered_by items) (ap are_apart (sym (ap entered (sym is) ∙ entered_is items (item ∷ t))) ∙ apart) c there))

    pub news_counted : (items : List (List Mark)) (t : Trace) → after_items items t ≡ t' → are_apart (entered t') ≡ true → EachOf (λ (c : Command). c.unit < o.units) (entered t') → count_by q (news_of o t items) ≡ count_by (new_since t) (entered t')
    news_counted [] t is apart units = sym (count_nothing (new_since t) (entered t') (λ c there. ap (λ u. (was_free c u && not (was_free c t)) && q c) (sym is) ∙ never (was_free c t) (q c)))
      where
        never : (u v : Bool) → ((u && not u) && v) ≡ false
        never true v = refl
        never false v = refl
    news_counted (item ∷ items) t is apart units =
        let first = item_counted items t item is apart units in
        let rest = news_counted items (item ∷ t) is apart units in
        let both = sum_by-append (λ (c : Command). cond (q c) 1 0) (newly_enabled o t item) (news_of o (item ∷ t) items) in
        let split = count_sum (new_since t) (λ (c : Command). (was_free c (item ∷ t) && not (was_free c t)) && q c) (new_since (item ∷ t)) (entered t')
        (λ c there. parted (was_free c t) (was_free c (item ∷ t)) (was_free c t') (q c) (λ free. ap (λ v. is_free_at c (item ∷ t) || v) free ∙ or_true (is_free_at c (item ∷ t))) (λ free. ap (was_free c) (sym is) ∙ free_later items (item ∷ t) c free)) in
        omega (arith, first, rest, both, split)
      where
        or_true : (v : Bool) → (v || true) ≡ true
        or_true true = refl
        or_true false = refl

        parted : (u v w x : Bool) → (u ≡ true → v ≡ true) → (v ≡ true → w ≡ true) → one ((w && not u) && x) ≡ one ((v && not u) && x) + one ((w && not v) && x)
        parted true true true x h k = refl
        parted true true false x h k = absurd (false≢true (k refl))
        parted true false w x h k = absurd (false≢true (h refl))
        parted false true true true h k = refl
        parted false true true false h k = refl
        parted false true false x h k = absurd (false≢true (k refl))
        parted false false true true h k = refl
        parted false false true false h k = refl
        parted false false false x h k = refl

  -- each that it enables entered, and is free
  pub news_entered : (items : List (List Mark)) (t : Trace) (x : Command) → In x (news_of o t items) → In x (entered (after_items items t)) × (was_free x (after_items items t) ≡ true)
  news_entered [] t x at = absurd at
  news_entered (item ∷ items) t x at =
      ⊎_elim
      (λ here. let k : IsNew t (item ∷ t) x = new_ones o t item x here in (entered_later items (item ∷ t) x k.there, free_later items (item ∷ t) x k.free))
      (λ later. news_entered items (item ∷ t) x later)
      (in-append (newly_enabled o t item) (news_of o (item ∷ t) items) x at)

-- ---- those that are live, and weren't told to start before

abbrev pub held_at : List ℕ → Trace → List Command
held_at told t = filter (λ (c : Command). was_free c t && not (contains told c.ticket)) (live t)

abbrev pub live_news : Setting → Trace → List (List Mark) → List Command
live_news o t items = filter (λ (c : Command). not (has (leaves_ticket c.ticket) (after_items items t))) (news_of o t items)

module _ (o : Setting) (items : List (List Mark)) (t : Trace) (told : List ℕ) (apart : are_apart (entered (after_items items t)) ≡ true) (units : EachOf (λ (c : Command). c.unit < o.units) (entered (after_items items t)))
    (told_free : (c : Command) → In c (entered (after_items items t)) → has (leaves_ticket c.ticket) (after_items items t) ≡ false → contains told c.ticket ≡ was_free c t) where
  -- they are just those that the event enabled
  pub same_counts : (q : Command → Bool) → count_by q (live_news o t items) ≡ count_by q (held_at told (after_items items t))
  same_counts q =
      count-filter q (λ (c : Command). not (has (leaves_ticket c.ticket) (after_items items t))) (news_of o t items)
      ∙ news_counted o (after_items items t) (λ (c : Command). not (has_left (after_items items t) c) && q c) (λ c both. flipped (has_left (after_items items t) c) (and_parts (not (has_left (after_items items t) c)) (q c) both).0) items t refl apart units
      ∙ count_members (λ (c : Command). (was_free c (after_items items t) && not (was_free c t)) && (not (has_left (after_items items t) c) && q c)) (λ (c : Command). not (has_left (after_items items t) c) && ((was_free c (after_items items t) && not (contains told c.ticket)) && q c)) (entered (after_items items t))
      (λ c there. alike c there (has_left (after_items items t) c) refl)
      ∙ sym (count-filter q (λ (c : Command). was_free c (after_items items t) && not (contains told c.ticket)) (live (after_items items t))
      ∙ count-filter (λ (c : Command). (was_free c (after_items items t) && not (contains told c.ticket)) && q c) (λ (c : Command). not (has_left (after_items items t) c)) (entered (after_items items t)))
    where
      flipped : (v : Bool) → not v ≡ true → v ≡ false
      flipped false is = refl
      flipped true is = absurd (false≢true is)

      false_last : (u : Bool) → (u && false) ≡ false
      false_last true = refl
      false_last false = refl

      alike : (c : Command) → In c (entered (after_items items t)) → (v : Bool) → has_left (after_items items t) c ≡ v
          → ((was_free c (after_items items t) && not (was_free c t)) && (not (has_left (after_items items t) c) && q c)) ≡ (not (has_left (after_items items t) c) && ((was_free c (after_items items t) && not (contains told c.ticket)) && q c))
      alike c there true is =
          ap (λ v. (was_free c (after_items items t) && not (was_free c t)) && (not v && q c)) is ∙ false_last (was_free c (after_items items t) && not (was_free c t))
          ∙ sym (ap (λ v. not v && ((was_free c (after_items items t) && not (contains told c.ticket)) && q c)) is)
      alike c there false is =
          ap (λ v. (was_free c (after_items items t) && not (was_free c t)) && (not v && q c)) is
          ∙ ap (λ v. (was_free c (after_items items t) && not v) && q c) (sym (told_free c there is))
          ∙ sym (ap (λ v. not v && ((was_free c (after_items items t) && not (contains told c.ticket)) && q c)) is)

  -- .. and with those that are barred no more than are live
  pub few_news : length (live_news o t items) + count_by (λ (c : Command). not (was_free c (after_items items t))) (live (after_items items t)) ≤ length (live (after_items items t))
  few_news =
      let long = all_counted (live_news o t items) in
      let same = same_counts (λ (c : Command). true) in
      let left = count-filter (λ (c : Command). true) (λ (c : Command). was_free c (after_items items t) && not (contains told c.ticket)) (live (after_items items t)) in
      let fewer = count-weaker (λ (c : Command). (was_free c (after_items items t) && not (contains told c.ticket)) && true) (λ (c : Command). was_free c (after_items items t)) (live (after_items items t))
      (λ c both. (and_parts (was_free c (after_items items t)) (not (contains told c.ticket)) (and_parts (was_free c (after_items items t) && not (contains told c.ticket)) true both).0).0) in
      let split = count_sum (λ (c : Command). true) (λ (c : Command). was_free c (after_items items t)) (λ (c : Command). not (was_free c (after_items items t))) (live (after_items items t)) (λ c there. either (was_free c (after_items items t))) in
      let all = all_counted (live (after_items items t)) in
      omega (arith, long, same, left, fewer, split, all)
    where
      all_counted : (cs : List Command) → count_by (λ (c : Command). true) cs ≡ length cs
      all_counted [] = refl
      all_counted (c ∷ cs) = omega (arith, all_counted cs, count-cons (λ (x : Command). true) c cs)

      either : (v : Bool) → one true ≡ one v + one (not v)
      either true = refl
      either false = refl
