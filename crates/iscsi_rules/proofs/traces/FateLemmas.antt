-- What has become of a number: a received one has one fate, and any other none.
use Rattle.std.proofs.Common.{arith, ◌≡◌, ℕ, ◌==◌, ◌||◌, cond, Bool, true, false, List, [], ◌∷◌, ◌++◌, count_by, Option, Some, None, refl, ap, sym, subst, ◌∙◌}
use Rattle.std.specs.List.{list_any, filter_map, cons_option}
use Rattle.std.proofs.lemmas.Bool.{false≢true, eqb-true}
use Rattle.iscsi_rules.specs.rules.Settings.{Setting}
use Rattle.iscsi_rules.specs.rules.Trace.{Arrival, Mark, Admits, Voids, Trace, has, first_of, number_received, contains, is_received, admits_at, admitted, delivers_number, is_delivered, empties_number, is_emptied, held}
use Rattle.iscsi_rules.specs.promises.Meaning.{voids_number, fates_of}
use Rattle.iscsi_rules.proofs.general.BoolLemmas.{or_false}
use Rattle.iscsi_rules.proofs.general.ElementLemmas.{In}
use Rattle.iscsi_rules.proofs.traces.HeldLemmas.{unreceived_unheld}
use Rattle.iscsi_rules.proofs.traces.TraceLemmas.{received-item, unadmitted}
use Rattle.iscsi_rules.proofs.items.Forms.{Start, AtTurn, start_mark, Deeds, if_some, marks_done, Form, Received, Executed, marks_of_form, begun, Starts, Each, IsDone, IsFormed, HasForm, HaveForms}
use Rattle.iscsi_rules.proofs.items.DeedLemmas.{views, tests}

-- ---- what an item does to a number

-- the number is received in the item, voided, its request taken out, delivered, and admitted
pub record ItemAt (n : ℕ) (item : List Mark) (r v e d : Bool) (as' : List Arrival) : Type 0 where
  pub receives : contains (filter_map number_received item) n ≡ r
  pub voided : list_any (voids_number n) item ≡ v
  pub emptied : list_any (empties_number n) item ≡ e
  pub delivered : list_any (delivers_number n) item ≡ d
  pub admits : filter_map (admits_at n) item ≡ as'

-- one thing at the most, and only where it may be
pub data Touch (t : Trace) (n : ℕ) (item : List Mark) : Type 0 where
  NotTouched : ItemAt n item false false false false [] → Touch t n item
  AdmitsNow : (a : Arrival) → is_received t n ≡ false → ItemAt n item true false false false (a ∷ []) → Touch t n item
  VoidsNow : is_received t n ≡ false → ItemAt n item true true false false [] → Touch t n item
  EmptiesNow : (b : Arrival) → held t n ≡ Some b → ItemAt n item false false true false [] → Touch t n item
  DeliversNow : (b : Arrival) → held t n ≡ Some b → ItemAt n item false false false true [] → Touch t n item

-- ---- the state of a number

pub record NumberIs (t : Trace) (n : ℕ) (r v e d : Bool) (h : Option Arrival) : Type 0 where
  pub received : is_received t n ≡ r
  pub voided : has (voids_number n) t ≡ v
  pub emptied : is_emptied t n ≡ e
  pub delivered : is_delivered t n ≡ d
  pub holds : held t n ≡ h

pub data Fate (t : Trace) (n : ℕ) : Type 0 where
  Unreceived : NumberIs t n false false false false None → Fate t n
  Held : (a : Arrival) → NumberIs t n true false false false (Some a) → Fate t n
  Voided : NumberIs t n true true false false None → Fate t n
  Emptied : NumberIs t n true false true false None → Fate t n
  Delivered : NumberIs t n true false false true None → Fate t n

-- ---- one item more

none_some : (a : Arrival) → None ≡ Some a → ⊥
none_some a h = cc

-- who is held, by the three facts
held_by : (t : Trace) (n : ℕ) (e d : Bool) (x : Option Arrival) → is_emptied t n ≡ e → is_delivered t n ≡ d → admitted t n ≡ x → held t n ≡ cond (d || e) None x
held_by t n e d x emptied delivered there = ap (λ b. cond (b || is_emptied t n) None (admitted t n)) delivered ∙ ap (λ b. cond (d || b) None (admitted t n)) emptied ∙ ap (λ y. cond (d || e) None y) there

admitted-first : (t : Trace) (n : ℕ) (item : List Mark) (a : Arrival) → is_received t n ≡ false → filter_map (admits_at n) item ≡ a ∷ [] → admitted (item ∷ t) n ≡ Some a
admitted-first t n item a new here = ap (λ xs. first_of (xs ++ filter_map (admits_at n) item)) (unadmitted n t new) ∙ ap first_of here

-- it is held as before, where the item neither takes it out nor delivers it
pub held-kept : (t : Trace) (n : ℕ) (item : List Mark) → list_any (empties_number n) item ≡ false → list_any (delivers_number n) item ≡ false → filter_map (admits_at n) item ≡ [] → held (item ∷ t) n ≡ held t n
held-kept t n item unemptied undelivered none = grind arith

-- an item joins its facts to those of before
joined : (t : Trace) (n : ℕ) (item : List Mark) (r v e d r' v' e' d' : Bool) (as' : List Arrival) (h x : Option Arrival) → NumberIs t n r v e d h → ItemAt n item r' v' e' d' as' → held (item ∷ t) n ≡ x
    → NumberIs (item ∷ t) n (r || r') (v' || v) (e' || e) (d' || d) x
joined t n item r v e d r' v' e' d' as' h x s i holds = grind (arith, received-item)

-- a number whose request is gone stays as it is
stays : (t : Trace) (n : ℕ) (item : List Mark) (v e d : Bool) → NumberIs t n true v e d None → Touch t n item → NumberIs (item ∷ t) n true v e d None
stays t n item v e d s touch = grind (arith, received-item)

next_fate : (t : Trace) (n : ℕ) (item : List Mark) → Fate t n → Touch t n item → Fate (item ∷ t) n
next_fate t n item (Unreceived s) (NotTouched i) = Unreceived (joined t n item false false false false false false false false [] None None s i (held-kept t n item i.emptied i.delivered i.admits ∙ s.holds))
next_fate t n item (Unreceived s) (AdmitsNow a new i) =
    Held a (joined t n item false false false false true false false false (a ∷ []) None (Some a) s i
    (held_by (item ∷ t) n false false (Some a) (ap (λ b. b || is_emptied t n) i.emptied ∙ s.emptied) (ap (λ b. b || is_delivered t n) i.delivered ∙ s.delivered) (admitted-first t n item a new i.admits)))
next_fate t n item (Unreceived s) (VoidsNow new i) = Voided (joined t n item false false false false true true false false [] None None s i (held-kept t n item i.emptied i.delivered i.admits ∙ s.holds))
next_fate t n item (Unreceived s) (EmptiesNow b there i) = absurd (none_some b (sym s.holds ∙ there))
next_fate t n item (Unreceived s) (DeliversNow b there i) = absurd (none_some b (sym s.holds ∙ there))
next_fate t n item (Held a s) (NotTouched i) = Held a (joined t n item true false false false false false false false [] (Some a) (Some a) s i (held-kept t n item i.emptied i.delivered i.admits ∙ s.holds))
next_fate t n item (Held a s) (AdmitsNow b new i) = absurd (false≢true (sym new ∙ s.received))
next_fate t n item (Held a s) (VoidsNow new i) = absurd (false≢true (sym new ∙ s.received))
next_fate t n item (Held a s) (EmptiesNow b there i) =
    Emptied (joined t n item true false false false false false true false [] (Some a) None s i
    (held_by (item ∷ t) n true false (admitted (item ∷ t) n) (ap (λ x. x || is_emptied t n) i.emptied) (ap (λ x. x || is_delivered t n) i.delivered ∙ s.delivered) refl))
next_fate t n item (Held a s) (DeliversNow b there i) =
    Delivered (joined t n item true false false false false false false true [] (Some a) None s i
    (held_by (item ∷ t) n false true (admitted (item ∷ t) n) (ap (λ x. x || is_emptied t n) i.emptied ∙ s.emptied) (ap (λ x. x || is_delivered t n) i.delivered) refl))
next_fate t n item (Voided s) x = Voided (stays t n item true false false s x)
next_fate t n item (Emptied s) x = Emptied (stays t n item false true false s x)
next_fate t n item (Delivered s) x = Delivered (stays t n item false false true s x)

-- ---- the marks of what is done

-- what the marks do to a number: it is voided, or requests are taken out there, or the request that executes is delivered there
abbrev void_at : ℕ → Deeds → Bool
void_at n d = list_any (voids_number n) (if_some Voids d.void)

abbrev emptied_at : ℕ → Deeds → Bool
emptied_at n d = list_any (λ (b : Arrival). b.number == n) d.emptied

abbrev delivered_at : ℕ → Start → Arrival → Bool
delivered_at n start a = list_any (delivers_number n) (start_mark start a ∷ [])

pub done_at : (n : ℕ) (a : Arrival) (d : Deeds) → ItemAt n (marks_done a d) (void_at n d) (void_at n d) (emptied_at n d) false []
done_at n a d = record { receives = simp (views, tests); voided = simp tests; emptied = simp tests; delivered = simp tests; admits = simp views }

pub executed_at : (n : ℕ) (start : Start) (a : Arrival) (d : Deeds) → ItemAt n (start_mark start a ∷ marks_done a d) (void_at n d) (void_at n d) (emptied_at n d) (delivered_at n start a) []
executed_at n start a d = grind (arith, done_at n a d)

-- ---- where they may be

-- a number that is voided wasn't received
void_new : (t : Trace) (n : ℕ) (x : Option ℕ) → Each (λ k. is_received t k ≡ false) x → list_any (voids_number n) (if_some Voids x) ≡ true → is_received t n ≡ false
void_new t n x new h = grind arith

-- the request that is taken out at a number
record TakenOut (n : ℕ) (bs : List Arrival) : Type 0 where
  request : Arrival
  there : In request bs
  number : request.number ≡ n

taken_at : (n : ℕ) (bs : List Arrival) → list_any (λ (b : Arrival). b.number == n) bs ≡ true → TakenOut n bs
taken_at n [] h = absurd (false≢true h)
taken_at n (b ∷ bs) h = grind (arith, taken_at n bs)

-- what is held once a request executes was held before, at another number
record HeldBefore (t : Trace) (n : ℕ) (start : Start) (a b : Arrival) : Type 0 where
  before : held t n ≡ Some b
  apart : delivered_at n start a ≡ false

held_before : (t : Trace) (n : ℕ) (start : Start) (a b : Arrival) → held (begun start a t) n ≡ Some b → HeldBefore t n start a b
held_before t n start a b h = grind arith

-- a request that is delivered was held
delivered_held : (now : ℕ) (t : Trace) (n : ℕ) (start : Start) (a : Arrival) → Starts now t start a → delivered_at n start a ≡ true → held t n ≡ Some a
delivered_held now t n AtTurn a starts h = ap (held t) (sym (eqb-true a.number n (sym (or_false (a.number == n)) ∙ h))) ∙ starts
delivered_held now t n start a starts h = absurd (false≢true h)

-- a request that executes does one thing to a number at the most
touch_executed : (o : Setting) (now : ℕ) (t : Trace) (n : ℕ) (start : Start) (a : Arrival) (d : Deeds) → Starts now t start a → IsDone o t start a d → Touch t n (start_mark start a ∷ marks_done a d)
touch_executed o now t n start a d starts x = by_tests (void_at n d) (emptied_at n d) (delivered_at n start a) refl refl refl (executed_at n start a d)
  where
    new : void_at n d ≡ true → is_received t n ≡ false
    new v = void_new t n d.void x.voids v

    out : emptied_at n d ≡ true → (b : Arrival) × HeldBefore t n start a b
    out e = let taken : TakenOut n d.emptied = taken_at n d.emptied e in (taken.request, held_before t n start a taken.request (ap (held (begun start a t)) (sym taken.number) ∙ x.empties taken.request taken.there))

    turn : delivered_at n start a ≡ true → held t n ≡ Some a
    turn dl = delivered_held now t n start a starts dl

    by_tests : (v e dl : Bool) → void_at n d ≡ v → emptied_at n d ≡ e → delivered_at n start a ≡ dl → ItemAt n (start_mark start a ∷ marks_done a d) v v e dl [] → Touch t n (start_mark start a ∷ marks_done a d)
    by_tests false false false p q r i = NotTouched i
    by_tests true false false p q r i = VoidsNow (new p) i
    by_tests false true false p q r i = let taken : (b : Arrival) × HeldBefore t n start a b = out q in EmptiesNow taken.0 taken.1.before i
    by_tests false false true p q r i = DeliversNow a (turn r) i
    by_tests true true dl p q r i = let taken : (b : Arrival) × HeldBefore t n start a b = out q in absurd (none_some taken.0 (sym (unreceived_unheld t n (new p)) ∙ taken.1.before))
    by_tests true false true p q r i = absurd (none_some a (sym (unreceived_unheld t n (new p)) ∙ turn r))
    by_tests false true true p q r i = absurd (false≢true (sym (out q).1.apart ∙ r))

-- so does an item of any form
pub touch_form : (o : Setting) (now : ℕ) (t : Trace) (n : ℕ) (form : Form) → IsFormed o now t form → Touch t n (marks_of_form form)
touch_form o now t n (Received a) x = by_test (a.number == n) refl
  where
    by_test : (v : Bool) → (a.number == n) ≡ v → Touch t n (Admits a ∷ [])
    by_test true is = AdmitsNow a (ap (is_received t) (sym (eqb-true a.number n is)) ∙ x.1) (record { receives = ap (λ b. b || false) is; voided = refl; emptied = refl; delivered = refl; admits = ap (λ b. cons_option (cond b (Some a) None) []) is })
    by_test false is = NotTouched (record { receives = ap (λ b. b || false) is; voided = refl; emptied = refl; delivered = refl; admits = ap (λ b. cons_option (cond b (Some a) None) []) is })
touch_form o now t n (Executed start a d) x = touch_executed o now t n start a d x.0 x.1
touch_form o now t n form x = NotTouched (record { receives = refl; voided = refl; emptied = refl; delivered = refl; admits = refl })

-- ---- the whole trace

pub fate : (o : Setting) (n : ℕ) (t : Trace) (next : ℕ) → HaveForms o next t → Fate t n
fate o n [] next x = Unreceived (record { received = refl; voided = refl; emptied = refl; delivered = refl; holds = refl })
fate o n (item ∷ t) next x =
    let f : HasForm o x.0 t item = x.1.1.0 in
    next_fate t n item (fate o n t _ x.1.1.1) (subst (Touch t n) (sym f.is) (touch_form o x.0 t n f.form f.formed))

pub one_fate : (t : Trace) (n : ℕ) → Fate t n → count_by (λ b. b) (fates_of t n) ≡ cond (is_received t n) 1 0
one_fate t n fate = grind arith
