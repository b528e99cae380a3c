-- What the items show of a command that an abort or a Logout took out: it doesn't complete, and each reply stands among them.
use Rattle.std.proofs.Common.{◌≡◌, ℕ, zero, suc, ◌==◌, ◌+◌, ◌≤◌, ◌||◌, ◌⊎◌, inl, inr, ⊎_elim, cond, true, false, List, [], ◌∷◌, ◌++◌, map, filter_map, count_by, Option, Some, None, refl, ap, sym, subst, ◌∙◌, arith, eq-eqb}
use Rattle.std.specs.List.{list_any, cons_option}
use Rattle.std.proofs.lemmas.Bool.{false≢true}
use Rattle.std.proofs.lemmas.List.{append_assoc}
use Rattle.std.proofs.lemmas.List.Folds.{list_any-append}
use Rattle.std.proofs.lemmas.List.Sums.{sum_by-cons}
use Rattle.iscsi_wire.specs.declared.reply.Reply.{Reply}
use Rattle.iscsi_wire.specs.declared.request.Request.{Request}
use Rattle.iscsi_rules.specs.declared.effect.Effect.{Effect}
use Rattle.iscsi_rules.specs.rules.Trace.{first_of}
use Rattle.iscsi_rules.proofs.general.BoolLemmas.{and_first}
use Rattle.iscsi_outbox_rules.specs.rules.Calls.{Opening}
use Rattle.iscsi_outbox_rules.specs.rules.Boxes.{Outgoing}
use Rattle.iscsi_outbox_rules.specs.rules.Words.{contains}
use Rattle.iscsi_outbox_rules.specs.rules.Items.{executing, tickets_left, reply_sent}
use Rattle.iscsi_outbox_rules.specs.promises.Scope.{Sent, sent_in, sent_from, sent_by, sent_as, nth, is_taken_out_in, is_taken_out_by, says_taken_out, completed_in}
use Rattle.iscsi_outbox_rules.proofs.general.EachLemmas.{EachOf}
use Rattle.iscsi_outbox_rules.proofs.general.FirstLemmas.{sent_as_first, firsts_from}
use Rattle.iscsi_outbox_rules.proofs.commands.LeaveLemmas.{leaving, leavings}
use Rattle.iscsi_outbox_rules.proofs.commands.TaskLives.{counted_in}

-- ---- a reply among the items

nth_append : {A : Type 0} (n : ℕ) (xs ys : List A) (x : A) → nth n (xs ++ ys) ≡ Some x → (nth n xs ≡ Some x) ⊎ ((m : ℕ) × (nth m ys ≡ Some x))
nth_append n [] ys x h = inr (n, h)
nth_append zero (y ∷ xs) ys x h = inl h
nth_append (suc n) (y ∷ xs) ys x h = nth_append n xs ys x h

nth_map : {A B : Type 0} (f : A → B) (n : ℕ) (xs : List A) (y : B) → nth n (map f xs) ≡ Some y → (x : A) × (f x ≡ y)
nth_map f n [] y h = absurd cc
nth_map f zero (x ∷ xs) y h = (x, cc)
nth_map f (suc n) (x ∷ xs) y h = nth_map f n xs y h

abbrev as_sent : List (List Effect) → List Effect → ℕ × Reply → Sent
as_sent before item x = record { before = before; item = item; conn = x.0; reply = x.1 }

sent_among : (before items : List (List Effect)) (n : ℕ) (s : Sent) → nth n (sent_from before items) ≡ Some s → (rest : List (List Effect)) × (s.before ++ s.item ∷ rest ≡ before ++ items)
sent_among before [] n s h = absurd cc
sent_among before (item ∷ items) n s h =
    ⊎_elim
    (λ (here : nth n (sent_in before item) ≡ Some s).
    let k = nth_map (λ (x : ℕ × Reply). as_sent before item x) n (filter_map reply_sent item) s here in
    (items, ap (λ (r : Sent). r.before ++ r.item ∷ items) (sym k.1)))
    (λ (later : (m : ℕ) × (nth m (sent_from (before ++ item ∷ []) items) ≡ Some s)).
    let k = sent_among (before ++ item ∷ []) items later.0 s later.1 in
    (k.0, k.1 ∙ append_assoc before (item ∷ []) items))
    (nth_append n (sent_in before item) (sent_from (before ++ item ∷ []) items) s h)

pub sent_split : (items : List (List Effect)) (out : Outgoing) (s : Sent) → sent_as items out ≡ Some s → (rest : List (List Effect)) × (s.before ++ s.item ∷ rest ≡ items)
sent_split items out s is = by_place (out.sent) is
  where
    by_place : (x : Option ℕ) → elim x [ Some place ↦ nth place (sent_by items) | None ↦ None ] ≡ Some s → (rest : List (List Effect)) × (s.before ++ s.item ∷ rest ≡ items)
    by_place None e = absurd cc
    by_place (Some place) e = sent_among [] items place s e

-- ---- the first reply of an item

pub some_sent : (s r : Sent) → Some s ≡ Some r → s ≡ r
some_sent s r h = cc

-- it is the first of its item
pub record Among (before items : List (List Effect)) (s : Sent) : Type 0 where
  pub rest : List (List Effect)
  pub whole : s.before ++ s.item ∷ rest ≡ before ++ items
  pub first : first_of (filter_map reply_sent s.item) ≡ Some (s.conn, s.reply)

pub firsts_among : (before items : List (List Effect)) (n : ℕ) (s : Sent) → nth n (firsts_from before items) ≡ Some s → Among before items s
firsts_among before [] n s h = absurd cc
firsts_among before (item ∷ items) n s h = by_first (first_of (filter_map reply_sent item)) (λ m. firsts_among (before ++ item ∷ []) items m s) refl n h
  where
    later : Among (before ++ item ∷ []) items s → Among before (item ∷ items) s
    later a = record { rest = a.rest; whole = a.whole ∙ append_assoc before (item ∷ []) items; first = a.first }

    by_first : (x : Option (ℕ × Reply)) → ((m : ℕ) → nth m (firsts_from (before ++ item ∷ []) items) ≡ Some s → Among (before ++ item ∷ []) items s) → first_of (filter_map reply_sent item) ≡ x → (m : ℕ) → nth m (cons_option (sent_as_first before item x) (firsts_from (before ++ item ∷ []) items)) ≡ Some s → Among before (item ∷ items) s
    by_first None go is m k = later (go m k)
    by_first (Some (conn, reply)) go is zero k =
        let first_one : Sent = record { before = before; item = item; conn = conn; reply = reply } in
        subst (Among before (item ∷ items)) (some_sent first_one s k) (record { rest = items; whole = refl; first = is })
    by_first (Some (conn, reply)) go is (suc m) k = later (go m k)

module _ (t : ℕ) where
  -- ---- what is over was taken out

  pub over_taken : (o : Opening) (s : Sent) → is_taken_out_by o s t ≡ true → list_any (is_taken_out_in t) (s.before ++ s.item ∷ []) ≡ true
  over_taken o s h = and_first (list_any (is_taken_out_in t) (s.before ++ s.item ∷ [])) _ h

  pub said_over : (o : Opening) (items : List (List Effect)) (out : Outgoing) → says_taken_out o items out t ≡ true → list_any (is_taken_out_in t) items ≡ true
  said_over o items out h = by_sent (sent_as items out) refl h
    where
      by_sent : (x : Option Sent) → sent_as items out ≡ x → elim x [ Some s ↦ is_taken_out_by o s t | None ↦ false ] ≡ true → list_any (is_taken_out_in t) items ≡ true
      by_sent None is over = absurd (false≢true over)
      by_sent (Some s) is over =
          let k = sent_split items out s is in
          let first : List (List Effect) = s.before ++ s.item ∷ [] in
          ap (list_any (is_taken_out_in t)) (sym k.1 ∙ sym (append_assoc s.before (s.item ∷ []) k.0)) ∙ list_any-append (is_taken_out_in t) first k.0
          ∙ ap (λ v. v || list_any (is_taken_out_in t) k.0) (over_taken o s over)

  -- ---- what was taken out doesn't complete

  first_counts : (ns : List ℕ) → first_of ns ≡ Some t → 1 ≤ count_by (λ k. k == t) ns
  first_counts [] h = absurd cc
  first_counts (n ∷ ns) h =
      let same : n ≡ t = cc in
      let counted : count_by (λ k. k == t) (n ∷ ns) ≡ cond {A = ℕ} (n == t) 1 0 + count_by (λ k. k == t) ns = sum_by-cons (λ k. cond (k == t) 1 0) n ns in
      let one : cond {A = ℕ} (n == t) 1 0 ≡ 1 = ap (λ v. cond {A = ℕ} v 1 0) (eq-eqb n t same) in
      omega (arith, counted, one)

  pub completed_leaves : (item : List Effect) → completed_in item ≡ Some t → 1 ≤ leaving t item
  completed_leaves item is = by_request (executing item) is
    where
      by_request : (x : Option Request) → elim x [ Some r ↦ None | None ↦ first_of (tickets_left item) ] ≡ Some t → 1 ≤ leaving t item
      by_request (Some r) e = absurd cc
      by_request None e = first_counts (tickets_left item) e

  taken_leaves : (item : List Effect) → is_taken_out_in t item ≡ true → 1 ≤ leaving t item
  taken_leaves item is = by_request (executing item) is
    where
      by_request : (x : Option Request) → elim x [ Some r ↦ contains (tickets_left item) t | None ↦ false ] ≡ true → 1 ≤ leaving t item
      by_request (Some r) e = counted_in t (tickets_left item) e
      by_request None e = absurd (false≢true e)

  not_both : (item : List Effect) → is_taken_out_in t item ≡ true → completed_in item ≡ Some t → ⊥
  not_both item taken completed = by_request (executing item) taken completed
    where
      by_request : (x : Option Request) → elim x [ Some r ↦ contains (tickets_left item) t | None ↦ false ] ≡ true → elim x [ Some r ↦ None | None ↦ first_of (tickets_left item) ] ≡ Some t → ⊥
      by_request (Some r) e k = cc
      by_request None e k = false≢true e

  pub any_leaves : (items : List (List Effect)) → list_any (is_taken_out_in t) items ≡ true → 1 ≤ leavings t items
  any_leaves [] h = absurd (false≢true h)
  any_leaves (item ∷ items) h =
      elim (is_taken_out_in t item) as (λ v. is_taken_out_in t item ≡ v → (v || list_any (is_taken_out_in t) items) ≡ true → 1 ≤ leaving t item + leavings t items) [
        | true ↦ λ is here. omega (arith, taken_leaves item is)
        | false ↦ λ is later. omega (arith, any_leaves items later)
      ] refl h

  abbrev pub Uncompleted : List Effect → Type 0
  Uncompleted item = completed_in item ≡ Some t → ⊥

  none_leaves : (items : List (List Effect)) → leavings t items ≡ 0 → EachOf Uncompleted items
  none_leaves [] none = tt
  none_leaves (item ∷ items) none = ((λ is. omega (arith, none, completed_leaves item is)), none_leaves items (omega (arith, none)))

  pub none_completes : (items : List (List Effect)) → leavings t items ≤ 1 → list_any (is_taken_out_in t) items ≡ true → EachOf Uncompleted items
  none_completes [] once h = tt
  none_completes (item ∷ items) once h =
      elim (is_taken_out_in t item) as (λ v. is_taken_out_in t item ≡ v → (v || list_any (is_taken_out_in t) items) ≡ true → EachOf Uncompleted (item ∷ items)) [
        | true ↦ λ is here. ((λ completed. not_both item is completed), none_leaves items (omega (arith, once, taken_leaves item is)))
        | false ↦ λ is later. ((λ completed. omega (arith, once, completed_leaves item completed, any_leaves items later)), none_completes items (omega (arith, once)) later)
      ] refl h
