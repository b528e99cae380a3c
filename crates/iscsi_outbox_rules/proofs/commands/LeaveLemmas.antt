-- Under a session each ticket leaves once at the most.
use Rattle.std.proofs.Common.{◌≡◌, ℕ, ◌==◌, ◌+◌, ◌≤◌, cond, Bool, true, false, List, [], ◌∷◌, ◌++◌, filter, count_by, refl, ap, sym, subst, ◌∙◌, arith}
use Rattle.std.specs.List.{flat_map, cons_option}
use Rattle.std.proofs.lemmas.Bool.{false≢true}
use Rattle.std.proofs.lemmas.List.Elements.{filter_map-append}
use Rattle.std.proofs.lemmas.List.Sums.{sum_by-cons, sum_by-append}
use Rattle.iscsi_rules.specs.declared.effect.Effect.{Effect}
use Rattle.iscsi_rules.specs.declared.effect.Effect.TheVariants.{Deliver, Immediate, Wait, Void, Empty, Enter, Enable, Leave, Send, CloseConn, CloseSession, Ignore}
use Rattle.iscsi_rules.specs.declared.entry.Entry.{Entry}
use Rattle.iscsi_rules.specs.rules.Run.{run_of}
use Rattle.iscsi_rules.specs.promises.Enabling.{effects_in}
use Rattle.iscsi_rules.specs.promises.Lives.{names_ticket, life_of, ends_in, goes_on_in, is_life}
use Rattle.iscsi_rules.specs.promises.Order.{in_parts}
use Rattle.iscsi_rules.proofs.general.BoolLemmas.{and_parts}
use Rattle.iscsi_rules.proofs.promises.LifeTheorem.{starts_once}
use Rattle.iscsi_outbox_rules.specs.rules.Calls.{Opening, Call}
use Rattle.iscsi_outbox_rules.specs.rules.Items.{ticket_left, tickets_left}
use Rattle.iscsi_outbox_rules.specs.rules.Run.{opened}
use Rattle.iscsi_outbox_rules.specs.promises.Deeds.{deeds_of, items_in, FollowsSession}
use Rattle.iscsi_outbox_rules.proofs.order.SentLemmas.{items_logged}
use Rattle.iscsi_outbox_rules.proofs.commands.TicketLemmas.{log_whole}

-- what is counted is kept by the filter
count_kept : {A : Type 0} (p q : A → Bool) → ((x : A) → p x ≡ true → q x ≡ true) → (xs : List A) → count_by p (filter q xs) ≡ count_by p xs
count_kept p q of [] = refl
count_kept {A = A} p q of (x ∷ xs) =
    elim (q x) as (λ v. q x ≡ v → count_by p (cond v (x ∷ filter q xs) (filter q xs)) ≡ count_by p (x ∷ xs)) [
      | true ↦ λ is. sum_by-cons (λ (y : A). cond (p y) 1 0) x (filter q xs) ∙ ap (λ n. cond (p x) 1 0 + n) (count_kept p q of xs) ∙ sym (sum_by-cons (λ (y : A). cond (p y) 1 0) x xs)
      | false ↦ λ isnt. count_kept p q of xs ∙ sym (sum_by-cons (λ (y : A). cond (p y) 1 0) x xs ∙ uncounted (p x) (λ is. false≢true (sym isnt ∙ of x is)))
    ] refl
  where
    uncounted : (v : Bool) → (v ≡ true → ⊥) → cond v 1 0 + count_by p xs ≡ count_by p xs
    uncounted true never = absurd (never refl)
    uncounted false never = omega arith

module _ (t : ℕ) where
  abbrev is_leave_of : Effect → Bool
  is_leave_of (Leave k u) = k == t
  is_leave_of _ = false

  counted : (e : Effect) (es : List Effect) → count_by is_leave_of (e ∷ es) ≡ cond (is_leave_of e) 1 0 + count_by is_leave_of es
  counted e es = sum_by-cons (λ (x : Effect). cond (is_leave_of x) 1 0) e es

  one_most : (v : Bool) → cond v 1 0 ≤ 1
  one_most true = omega arith
  one_most false = omega arith

  named : (e : Effect) → is_leave_of e ≡ true → names_ticket t e ≡ true
  named (Deliver r) h = absurd (false≢true h)
  named (Immediate r) h = absurd (false≢true h)
  named (Wait r) h = absurd (false≢true h)
  named (Void n) h = absurd (false≢true h)
  named (Empty n) h = absurd (false≢true h)
  named (Enter k u attr) h = absurd (false≢true h)
  named (Enable k u) h = absurd (false≢true h)
  named (Leave k u) h = h
  named (Send conn stat_sn reply) h = absurd (false≢true h)
  named (CloseConn conn) h = absurd (false≢true h)
  named CloseSession h = absurd (false≢true h)
  named (Ignore why) h = absurd (false≢true h)

  -- ---- a life has one at the most

  one_alone : (unit : ℕ) (x y : Effect) (es : List Effect) → ends_in unit (x ∷ y ∷ es) ≡ true → ⊥
  one_alone unit (Deliver r) y es h = false≢true h
  one_alone unit (Immediate r) y es h = false≢true h
  one_alone unit (Wait r) y es h = false≢true h
  one_alone unit (Void n) y es h = false≢true h
  one_alone unit (Empty n) y es h = false≢true h
  one_alone unit (Enter k u attr) y es h = false≢true h
  one_alone unit (Enable k u) y es h = false≢true h
  one_alone unit (Leave k u) y es h = false≢true h
  one_alone unit (Send conn stat_sn reply) y es h = false≢true h
  one_alone unit (CloseConn conn) y es h = false≢true h
  one_alone unit CloseSession y es h = false≢true h
  one_alone unit (Ignore why) y es h = false≢true h

  ends_once : (unit : ℕ) (es : List Effect) → ends_in unit es ≡ true → count_by is_leave_of es ≤ 1
  ends_once unit [] h = omega arith
  ends_once unit (x ∷ []) h = let most : cond {A = ℕ} (is_leave_of x) 1 0 ≤ 1 = one_most (is_leave_of x) in omega (arith, counted x [], most)
  ends_once unit (x ∷ y ∷ es) h = absurd (one_alone unit x y es h)

  goes_on_once : (unit : ℕ) (es : List Effect) → goes_on_in unit es ≡ true → count_by is_leave_of es ≤ 1
  goes_on_once unit [] h = omega arith
  goes_on_once unit (Deliver r ∷ es) h = ends_once unit (Deliver r ∷ es) h
  goes_on_once unit (Immediate r ∷ es) h = ends_once unit (Immediate r ∷ es) h
  goes_on_once unit (Wait r ∷ es) h = ends_once unit (Wait r ∷ es) h
  goes_on_once unit (Void n ∷ es) h = ends_once unit (Void n ∷ es) h
  goes_on_once unit (Empty n ∷ es) h = ends_once unit (Empty n ∷ es) h
  goes_on_once unit (Enter k u attr ∷ es) h = ends_once unit (Enter k u attr ∷ es) h
  goes_on_once unit (Enable k u ∷ es) h = let rest : count_by is_leave_of es ≤ 1 = ends_once unit es (and_parts (u == unit) (ends_in unit es) h).1 in omega (arith, counted (Enable k u) es, rest)
  goes_on_once unit (Leave k u ∷ es) h = ends_once unit (Leave k u ∷ es) h
  goes_on_once unit (Send conn stat_sn reply ∷ es) h = ends_once unit (Send conn stat_sn reply ∷ es) h
  goes_on_once unit (CloseConn conn ∷ es) h = ends_once unit (CloseConn conn ∷ es) h
  goes_on_once unit (CloseSession ∷ es) h = ends_once unit (CloseSession ∷ es) h
  goes_on_once unit (Ignore why ∷ es) h = ends_once unit (Ignore why ∷ es) h

  life_once : (es : List Effect) → is_life es ≡ true → count_by is_leave_of es ≤ 1
  life_once [] h = omega arith
  life_once (Deliver r ∷ es) h = absurd (false≢true h)
  life_once (Immediate r ∷ es) h = absurd (false≢true h)
  life_once (Wait r ∷ es) h = absurd (false≢true h)
  life_once (Void n ∷ es) h = absurd (false≢true h)
  life_once (Empty n ∷ es) h = absurd (false≢true h)
  life_once (Enter k u attr ∷ es) h = let rest : count_by is_leave_of es ≤ 1 = goes_on_once u es h in omega (arith, counted (Enter k u attr) es, rest)
  life_once (Enable k u ∷ es) h = absurd (false≢true h)
  life_once (Leave k u ∷ es) h = absurd (false≢true h)
  life_once (Send conn stat_sn reply ∷ es) h = absurd (false≢true h)
  life_once (CloseConn conn ∷ es) h = absurd (false≢true h)
  life_once (CloseSession ∷ es) h = absurd (false≢true h)
  life_once (Ignore why ∷ es) h = absurd (false≢true h)

  -- ---- what items show

  abbrev pub leaving : List Effect → ℕ
  leaving item = count_by (λ k. k == t) (tickets_left item)

  abbrev pub leavings : List (List Effect) → ℕ
  leavings [] = 0
  leavings (item ∷ items) = leaving item + leavings items

  pub leavings-append : (xs ys : List (List Effect)) → leavings (xs ++ ys) ≡ leavings xs + leavings ys
  leavings-append [] ys = omega arith
  leavings-append (x ∷ xs) ys = let rest : leavings (xs ++ ys) ≡ leavings xs + leavings ys = leavings-append xs ys in omega (arith, rest)

  pub leavings_flat : (items : List (List Effect)) → leavings items ≡ leaving (flat_map (λ (es : List Effect). es) items)
  leavings_flat [] = refl
  leavings_flat (item ∷ items) =
      ap (λ n. leaving item + n) (leavings_flat items)
      ∙ sym (ap (count_by (λ k. k == t)) (filter_map-append ticket_left item (flat_map (λ (es : List Effect). es) items))
      ∙ sum_by-append (λ k. cond (k == t) 1 0) (tickets_left item) (tickets_left (flat_map (λ (es : List Effect). es) items)))

  leaves_shown : (es : List Effect) → count_by is_leave_of es ≡ leaving es
  leaves_shown [] = refl
  leaves_shown (e ∷ es) = counted e es ∙ by_effect e (leaves_shown es)
    where
      by_effect : (x : Effect) → count_by is_leave_of es ≡ leaving es → cond (is_leave_of x) 1 0 + count_by is_leave_of es ≡ count_by (λ k. k == t) (cons_option (ticket_left x) (tickets_left es))
      by_effect (Deliver r) rest = omega (arith, rest)
      by_effect (Immediate r) rest = omega (arith, rest)
      by_effect (Wait r) rest = omega (arith, rest)
      by_effect (Void n) rest = omega (arith, rest)
      by_effect (Empty n) rest = omega (arith, rest)
      by_effect (Enter k u attr) rest = omega (arith, rest)
      by_effect (Enable k u) rest = omega (arith, rest)
      by_effect (Leave k u) rest = ap (λ n. cond (k == t) 1 0 + n) rest ∙ sym (sum_by-cons (λ y. cond (y == t) 1 0) k (tickets_left es))
      by_effect (Send conn stat_sn reply) rest = omega (arith, rest)
      by_effect (CloseConn conn) rest = omega (arith, rest)
      by_effect CloseSession rest = omega (arith, rest)
      by_effect (Ignore why) rest = omega (arith, rest)

  pub leaves_once : (o : Opening) (cs : List Call) → FollowsSession o cs → leavings (items_in (deeds_of o cs)) ≤ 1
  leaves_once o cs follows =
      let log : List Entry = run_of o.session follows.0 in
      let shown : leavings (items_in (deeds_of o cs)) ≡ leaving (effects_in log) =
      ap leavings (items_logged o (opened o) cs ∙ ap (flat_map (λ (e : Entry). in_parts e.effects)) follows.1)
      ∙ leavings_flat (flat_map (λ (e : Entry). in_parts e.effects) log) ∙ ap leaving (log_whole log) in
      let once : count_by is_leave_of (life_of t (effects_in log)) ≤ 1 = life_once (life_of t (effects_in log)) ((starts_once o.session follows.0).lives t) in
      subst (λ n. n ≤ 1) (count_kept is_leave_of (names_ticket t) named (effects_in log) ∙ leaves_shown (effects_in log) ∙ sym shown) once
