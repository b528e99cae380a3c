-- How many commands an item enables, and which.
use Rattle.std.proofs.Common.{◌≡◌, ℕ, zero, suc, ◌+◌, ◌<◌, ◌≤◌, ◌==◌, ◌&&◌, ⊎_elim, not, cond, nat_lt, Bool, true, false, List, [], ◌∷◌, length, count_by, filter, refl, ap, sym, subst, ◌∙◌, arith, lt-ltb, le-ltb, ne_eqb}
use Rattle.std.specs.List.{flat_map, range_with_len}
use Rattle.std.proofs.lemmas.Bool.{cases_eq, cases_lt, eq-eqb, false≢true, or_right}
use Rattle.std.proofs.lemmas.List.Sums.{sum_by-append}
use Rattle.iscsi_rules.specs.rules.Run.{newly_enabled}
use Rattle.iscsi_rules.specs.rules.Settings.{Setting}
use Rattle.iscsi_rules.specs.rules.Trace.{Command, Mark, Trace, enabled_in, entered, has, leaves_ticket, live, was_free}
use Rattle.iscsi_rules.proofs.general.BoolLemmas.{and_false, and_parts}
use Rattle.iscsi_rules.proofs.general.CountLemmas.{one, count-cons, count-filter, count-weaker}
use Rattle.iscsi_rules.proofs.general.ElementLemmas.{In, filter-in, flat_map-in, in-filter, range-in}
use Rattle.iscsi_outbox_law.specs.private.Pairs.{EachOf}
use Rattle.iscsi_ffi_law.proofs.completions.DoneShape.{done_item, done_trace, entered_same, free_still, left_too, news}
use Rattle.iscsi_ffi_law.proofs.requests.Kept.{count_members, count_nothing}
use Rattle.iscsi_ffi_law.proofs.general.Members.{each_in}
use Rattle.iscsi_ffi_law.proofs.commands.Stopping.{count_sum}

-- so many units from one on
abbrev is_within : ℕ → ℕ → ℕ → Bool
is_within a n x = not (nat_lt x a) && nat_lt x (a + n)

within_more : (a n x : ℕ) (b : Bool) → one (is_within a (suc n) x && b) ≡ one ((x == a) && b) + one (is_within (a + 1) n x && b)
within_more a n x false =
    let p : one (is_within a (suc n) x && false) ≡ 0 = ap one (and_false (is_within a (suc n) x)) in
    let q : one ((x == a) && false) ≡ 0 = ap one (and_false (x == a)) in
    let r : one (is_within (a + 1) n x && false) ≡ 0 = ap one (and_false (is_within (a + 1) n x)) in
    omega (arith, p, q, r)
within_more a n x true =
    ⊎_elim
    (λ below.
    let p : one (is_within a (suc n) x && true) ≡ 0 = ap (λ v. one ((not v && nat_lt x (a + suc n)) && true)) (lt-ltb x a below) in
    let q : one ((x == a) && true) ≡ 0 = ap (λ v. one (v && true)) (ne_eqb x a (λ same. omega (arith, same, below))) in
    let r : one (is_within (a + 1) n x && true) ≡ 0 = ap (λ v. one ((not v && nat_lt x (a + 1 + n)) && true)) (lt-ltb x (a + 1) (omega (arith, below))) in
    omega (arith, p, q, r))
    (λ from. ⊎_elim
    (λ same.
    let p : one (is_within a (suc n) x && true) ≡ 1 = ap (λ v. one ((not v && nat_lt x (a + suc n)) && true)) (le-ltb x a from) ∙ ap (λ v. one (v && true)) (lt-ltb x (a + suc n) (omega (arith, same))) in
    let q : one ((x == a) && true) ≡ 1 = ap (λ v. one (v && true)) (eq-eqb x a same) in
    let r : one (is_within (a + 1) n x && true) ≡ 0 = ap (λ v. one ((not v && nat_lt x (a + 1 + n)) && true)) (lt-ltb x (a + 1) (omega (arith, same))) in
    omega (arith, p, q, r))
    (λ other.
    let p : one (is_within a (suc n) x && true) ≡ one (nat_lt x (a + suc n) && true) = ap (λ v. one ((not v && nat_lt x (a + suc n)) && true)) (le-ltb x a from) in
    let q : one ((x == a) && true) ≡ 0 = ap (λ v. one (v && true)) (ne_eqb x a other) in
    let r : one (is_within (a + 1) n x && true) ≡ one (nat_lt x (a + 1 + n) && true) = ap (λ v. one ((not v && nat_lt x (a + 1 + n)) && true)) (le-ltb x (a + 1) (omega (arith, from, other))) in
    let e : a + suc n ≡ a + 1 + n = omega arith in
    let s : one (nat_lt x (a + suc n) && true) ≡ one (nat_lt x (a + 1 + n) && true) = ap (λ m. one (nat_lt x m && true)) e in
    omega (arith, p, q, r, s)) (cases_eq x a)) (cases_lt x a)

-- those of these units
of_units : (p : Command → Bool) (f : ℕ → List Command) (g : Command → Bool) (cs : List Command) → ((u : ℕ) → count_by p (f u) ≡ count_by (λ (c : Command). (c.unit == u) && g c) cs) → (a n : ℕ)
    → count_by p (flat_map f (range_with_len a n)) ≡ count_by (λ (c : Command). is_within a n c.unit && g c) cs
of_units p f g cs each a zero = sym (count_nothing (λ (c : Command). is_within a 0 c.unit && g c) cs (λ c there. ap (λ v. v && g c) (⊎_elim
    (λ below. ap (λ v. not v && nat_lt c.unit (a + 0)) (lt-ltb c.unit a below))
    (λ from. ap (λ v. not v && nat_lt c.unit (a + 0)) (le-ltb c.unit a from) ∙ le-ltb c.unit (a + 0) (omega (arith, from))) (cases_lt c.unit a))))
of_units p f g cs each a (suc n) =
    let rest = of_units p f g cs each (a + 1) n in
    let all = sum_by-append (λ (c : Command). cond (p c) 1 0) (f a) (flat_map f (range_with_len (a + 1) n)) in
    let split = count_sum (λ (c : Command). is_within a (suc n) c.unit && g c) (λ (c : Command). (c.unit == a) && g c) (λ (c : Command). is_within (a + 1) n c.unit && g c) cs (λ c there. within_more a n c.unit (g c)) in
    omega (arith, rest, all, split, each a)

-- those that an item enables
module _ (o : Setting) (t : Trace) (item : List Mark) (units : EachOf (λ (c : Command). c.unit < o.units) (entered (item ∷ t))) where
  unit_behind : (c : Command) → In c (live (item ∷ t)) → c.unit < o.units
  unit_behind c there = each_in (λ (x : Command). x.unit < o.units) (entered (item ∷ t)) c (in-filter (λ (x : Command). not (has (leaves_ticket x.ticket) (item ∷ t))) (entered (item ∷ t)) c there).0 units

  pub newly_counted : (p : Command → Bool) → count_by p (newly_enabled o t item) ≡ count_by (λ (c : Command). (was_free c (item ∷ t) && not (was_free c t)) && p c) (live (item ∷ t))
  newly_counted p =
      of_units p (λ unit. filter (λ c. not (was_free c t)) (enabled_in unit (item ∷ t))) (λ (c : Command). (was_free c (item ∷ t) && not (was_free c t)) && p c) (live (item ∷ t)) in_unit 0 o.units
      ∙ count_members (λ (c : Command). is_within 0 o.units c.unit && ((was_free c (item ∷ t) && not (was_free c t)) && p c)) (λ (c : Command). (was_free c (item ∷ t) && not (was_free c t)) && p c) (live (item ∷ t))
      (λ c there. ap (λ v. v && ((was_free c (item ∷ t) && not (was_free c t)) && p c)) (ap (λ v. not v && nat_lt c.unit (0 + o.units)) (le-ltb c.unit 0 (omega arith)) ∙ lt-ltb c.unit (0 + o.units) (let lt = unit_behind c there in omega (arith, lt))))
    where
      order : (u v w x : Bool) → (u && (v && (w && x))) ≡ (u && ((v && w) && x))
      order false v w x = refl
      order true false w x = refl
      order true true w x = refl

      in_unit : (u : ℕ) → count_by p (filter (λ c. not (was_free c t)) (enabled_in u (item ∷ t))) ≡ count_by (λ (c : Command). (c.unit == u) && ((was_free c (item ∷ t) && not (was_free c t)) && p c)) (live (item ∷ t))
      in_unit u =
          count-filter p (λ c. not (was_free c t)) (enabled_in u (item ∷ t))
          ∙ count-filter (λ c. not (was_free c t) && p c) (λ c. was_free c (item ∷ t)) (filter (λ (c : Command). c.unit == u) (live (item ∷ t)))
          ∙ count-filter (λ c. was_free c (item ∷ t) && (not (was_free c t) && p c)) (λ (c : Command). c.unit == u) (live (item ∷ t))
          ∙ count_members (λ (c : Command). (c.unit == u) && (was_free c (item ∷ t) && (not (was_free c t) && p c))) (λ (c : Command). (c.unit == u) && ((was_free c (item ∷ t) && not (was_free c t)) && p c)) (live (item ∷ t))
          (λ c there. order (c.unit == u) (was_free c (item ∷ t)) (not (was_free c t)) (p c))

module _ (o : Setting) (t : Trace) (d : Command) (status : ℕ) where
  abbrev t' : Trace
  t' = done_trace t d status

  -- it is enabled by the item
  abbrev pub is_new : Command → Bool
  is_new c = was_free c (done_trace t d status) && not (was_free c t)

  -- each unit is one of the session's
  module _ (units : EachOf (λ (c : Command). c.unit < o.units) (entered t)) where
    unit_of : (c : Command) → In c (live (done_trace t d status)) → c.unit < o.units
    unit_of c there = each_in (λ (x : Command). x.unit < o.units) (entered t) c (subst (In c) (entered_same t d status) (in-filter (λ (x : Command). not (has (leaves_ticket x.ticket) (done_trace t d status))) (entered (done_trace t d status)) c there).0) units

    pub news_counted : (p : Command → Bool) → count_by p (news o t d status) ≡ count_by (λ (c : Command). is_new c && p c) (live (done_trace t d status))
    news_counted = newly_counted o t (done_item d status) (subst (EachOf (λ (c : Command). c.unit < o.units)) (sym (entered_same t d status)) units)

    -- one that it enables is among them
    pub in_news : (c : Command) → In c (live (done_trace t d status)) → was_free c (done_trace t d status) ≡ true → was_free c t ≡ false → In c (news o t d status)
    in_news c there free barred =
        flat_map-in (λ unit. filter (λ x. not (was_free x t)) (enabled_in unit (done_trace t d status))) (range_with_len 0 o.units) c.unit c (range-in 0 o.units c.unit (omega arith) (let lt = unit_of c there in omega (arith, lt)))
        (filter-in (λ x. not (was_free x t)) (enabled_in c.unit (done_trace t d status)) c
        (filter-in (λ x. was_free x (done_trace t d status)) (filter (λ (x : Command). x.unit == c.unit) (live (done_trace t d status))) c (filter-in (λ (x : Command). x.unit == c.unit) (live (done_trace t d status)) c there (eq-eqb c.unit c.unit refl)) free)
        (ap not barred))

    -- no more are enabled than weren't free
    pub fewer_barred : length (news o t d status) + count_by (λ (c : Command). not (was_free c (done_trace t d status))) (live (done_trace t d status)) ≤ count_by (λ (c : Command). not (was_free c t)) (live t)
    fewer_barred =
        let all = news_counted (λ (c : Command). true) in
        let long = all_counted (news o t d status) in
        let same = count_members (λ (c : Command). is_new c && true) is_new (live (done_trace t d status)) (λ c there. whole (is_new c)) in
        let split = count_sum (λ (c : Command). not (was_free c t)) is_new (λ (c : Command). not (was_free c (done_trace t d status))) (live (done_trace t d status)) (λ c there. either c (was_free c t) refl (was_free c (done_trace t d status)) refl) in
        let left = count-filter (λ (c : Command). not (was_free c t)) (λ (c : Command). not (has (leaves_ticket c.ticket) (done_trace t d status))) (entered (done_trace t d status)) in
        let there = ap (count_by (λ (c : Command). not (has (leaves_ticket c.ticket) (done_trace t d status)) && not (was_free c t))) (entered_same t d status) in
        let before = count-filter (λ (c : Command). not (was_free c t)) (λ (c : Command). not (has (leaves_ticket c.ticket) t)) (entered t) in
        let fewer = count-weaker (λ (c : Command). not (has (leaves_ticket c.ticket) (done_trace t d status)) && not (was_free c t)) (λ (c : Command). not (has (leaves_ticket c.ticket) t) && not (was_free c t)) (entered t) (λ c k. still c (has (leaves_ticket c.ticket) t) refl k) in
        omega (arith, all, long, same, split, left, there, before, fewer)
      where
        whole : (v : Bool) → (v && true) ≡ v
        whole true = refl
        whole false = refl

        all_counted : (cs : List Command) → count_by (λ (c : Command). true) cs ≡ length cs
        all_counted [] = refl
        all_counted (c ∷ cs) = omega (arith, all_counted cs, count-cons (λ (x : Command). true) c cs)

        either : (c : Command) (v : Bool) → was_free c t ≡ v → (w : Bool) → was_free c (done_trace t d status) ≡ w → one (not (was_free c t)) ≡ one (is_new c) + one (not (was_free c (done_trace t d status)))
        either c v is w is' =
            ap (λ x. one (not x)) is ∙ both v w (λ e. sym is' ∙ free_still t d status c (is ∙ e)) ∙ sym (ap (λ x. one (x && not (was_free c t)) + one (not x)) is' ∙ ap (λ x. one (w && not x) + one (not w)) is)
          where
            both : (x y : Bool) → (x ≡ true → y ≡ true) → one (not x) ≡ one (y && not x) + one (not y)
            both true true k = refl
            both true false k = absurd (false≢true (k refl))
            both false true k = refl
            both false false k = refl

        still : (c : Command) (v : Bool) → has (leaves_ticket c.ticket) t ≡ v → (not (has (leaves_ticket c.ticket) (done_trace t d status)) && not (was_free c t)) ≡ true → (not (has (leaves_ticket c.ticket) t) && not (was_free c t)) ≡ true
        still c false is k = ap (λ v. not v && not (was_free c t)) is ∙ (and_parts (not (has (leaves_ticket c.ticket) (done_trace t d status))) (not (was_free c t)) k).1
        still c true is k =
            absurd (false≢true (sym (ap not (left_too t d status c.ticket ∙ or_right (d.ticket == c.ticket) (has (leaves_ticket c.ticket) t) is)) ∙ (and_parts (not (has (leaves_ticket c.ticket) (done_trace t d status))) (not (was_free c t)) k).0))
