-- The marks of what a request does, one by one.
use Rattle.std.proofs.Common.{arith, ◌≡◌, ℕ, ◌||◌, inl, inr, cond, Bool, true, false, List, [], ◌∷◌, ◌++◌, map, Option, Some, None, is_some, refl, ap, sym, subst, ◌∙◌}
use Rattle.std.specs.List.{list_any, filter_map, cons_option}
use Rattle.std.proofs.lemmas.List.{append-nil}
use Rattle.std.proofs.lemmas.List.Elements.{filter_map-append}
use Rattle.std.proofs.lemmas.List.Folds.{list_any-append}
use Rattle.std.proofs.lemmas.Bool.{false≢true}
use Rattle.iscsi_wire.specs.declared.reply.Reply.{Reply}
use Rattle.iscsi_wire.specs.Fields.{connection_of}
use Rattle.iscsi_rules.specs.rules.Trace.{Arrival, Command, Mark, Delivers, Executes, Voids, Empties, Leaves, Enters, Sends, ClosesConn, ClosesSession}
use Rattle.iscsi_rules.proofs.general.BoolLemmas.{or_first, or_second, or_false}
use Rattle.iscsi_rules.proofs.general.ElementLemmas.{In}
use Rattle.iscsi_rules.proofs.general.ListLemmas.{list_any-map}
use Rattle.iscsi_rules.proofs.items.Forms.{Start, start_mark, Deeds, if_some, marks_done, Each, is_closing}

pub each_is : {A : Type 0} (P : A → Type 0) (x : Option A) (y : A) → Each P x → x ≡ Some y → P y
each_is P x y h is = grind arith

-- a test that the mark doesn't pass by which the request executes
pub begun_any : (p : Mark → Bool) (start : Start) (a : Arrival) (ms : List Mark) → p (Delivers a) ≡ false → p (Executes a) ≡ false → list_any p (start_mark start a ∷ ms) ≡ list_any p ms
begun_any p start a ms delivers executes = grind arith

module _ (a : Arrival) (d : Deeds) where
  -- where it closes nothing
  pub unended : is_closing d ≡ false → d.ending ≡ true → ⊥
  unended stays is = false≢true (sym stays ∙ or_first d.ending (is_some d.closing) is)

  pub unparted : is_closing d ≡ false → (conn : ℕ) → d.closing ≡ Some conn → ⊥
  unparted stays conn is = false≢true (sym stays ∙ or_second d.ending (is_some d.closing) (ap is_some is))

  -- what holds of no marks, and of each of these before others, holds of all
  pub each_done : (P : List Mark → Type 0) → P [] → ((n : ℕ) → d.void ≡ Some n → (ms : List Mark) → P ms → P (Voids n ∷ ms)) → ((c : Command) → In c d.leaving → (ms : List Mark) → P ms → P (Leaves c ∷ ms))
      → ((b : Arrival) → In b d.emptied → (ms : List Mark) → P ms → P (Empties b ∷ ms)) → ((c : Command) → d.entering ≡ Some c → (ms : List Mark) → P ms → P (Enters c ∷ ms))
      → ((reply : Reply) → d.reply ≡ Some reply → (ms : List Mark) → P ms → P (Sends (connection_of a.request) reply ∷ ms)) → ((conn : ℕ) → d.closing ≡ Some conn → (ms : List Mark) → P ms → P (ClosesConn conn ∷ ms))
      → (d.ending ≡ true → (ms : List Mark) → P ms → P (ClosesSession ∷ ms)) → P (marks_done a d)
  each_done P none voids leaves empties enter sends closes ends =
      of_some Voids d.void _ voids (of_all Leaves d.leaving _ leaves (of_all Empties d.emptied _ empties
      (of_some Enters d.entering _ enter (of_some (Sends (connection_of a.request)) d.reply _ sends (of_some ClosesConn d.closing _ closes (of_end d.ending refl))))))
    where
      of_some : {A : Type 0} (f : A → Mark) (x : Option A) (ms : List Mark) → ((y : A) → x ≡ Some y → (ns : List Mark) → P ns → P (f y ∷ ns)) → P ms → P (if_some f x ++ ms)
      of_some f x ms h rest = grind arith

      of_all : {A : Type 0} (f : A → Mark) (xs : List A) (ms : List Mark) → ((y : A) → In y xs → (ns : List Mark) → P ns → P (f y ∷ ns)) → P ms → P (map f xs ++ ms)
      of_all f [] ms h rest = rest
      of_all f (x ∷ xs) ms h rest = h x (inl refl) (map f xs ++ ms) (of_all f xs ms (λ y there. h y (inr there)) rest)

      of_end : (b : Bool) → d.ending ≡ b → P (cond b (ClosesSession ∷ []) [])
      of_end b is = grind arith

  -- a test that none of them passes
  pub none_done : (p : Mark → Bool) → ((n : ℕ) → d.void ≡ Some n → p (Voids n) ≡ false) → ((c : Command) → In c d.leaving → p (Leaves c) ≡ false) → ((b : Arrival) → In b d.emptied → p (Empties b) ≡ false)
      → ((c : Command) → d.entering ≡ Some c → p (Enters c) ≡ false) → ((reply : Reply) → d.reply ≡ Some reply → p (Sends (connection_of a.request) reply) ≡ false) → ((conn : ℕ) → d.closing ≡ Some conn → p (ClosesConn conn) ≡ false)
      → (d.ending ≡ true → p ClosesSession ≡ false) → list_any p (marks_done a d) ≡ false
  none_done p voids leaves empties enter sends closes ends =
      each_done (λ ms. list_any p ms ≡ false) refl (λ n is ms rest. first (voids n is) rest) (λ c there ms rest. first (leaves c there) rest) (λ b there ms rest. first (empties b there) rest)
      (λ c is ms rest. first (enter c is) rest) (λ reply is ms rest. first (sends reply is) rest) (λ conn is ms rest. first (closes conn is) rest) (λ is ms rest. first (ends is) rest)
    where
      first : {x y : Bool} → x ≡ false → y ≡ false → (x || y) ≡ false
      first {x} {y} h k = ap (λ b. b || y) h ∙ k

-- ---- what a view shows of them, and whether they pass a test

abbrev pub to_list : {B : Type 0} → Option B → List B
to_list x = cons_option x []

pub seen-map : {A B : Type 0} (view : Mark → Option B) (f : A → Mark) (xs : List A) → filter_map view (map f xs) ≡ filter_map (λ x. view (f x)) xs
seen-map view f [] = refl
seen-map view f (x ∷ xs) = ap (cons_option (view (f x))) (seen-map view f xs)

pub seen-some : {A B : Type 0} (view : Mark → Option B) (f : A → Mark) (x : Option A) → filter_map view (if_some f x) ≡ filter_map (λ y. view (f y)) (to_list x)
seen-some view f x = grind arith

pub seen-end : {B : Type 0} (view : Mark → Option B) (b : Bool) → filter_map view (cond b (ClosesSession ∷ []) []) ≡ cond b (to_list (view ClosesSession)) []
seen-end view b = grind arith

pub seen-none : {A B : Type 0} (xs : List A) → filter_map (λ (x : A). let y : Option B = None in y) xs ≡ []
seen-none [] = refl
seen-none (x ∷ xs) = seen-none xs

pub seen-all : {A : Type 0} (xs : List A) → filter_map (λ (x : A). Some x) xs ≡ xs
seen-all [] = refl
seen-all (x ∷ xs) = ap (λ ys. x ∷ ys) (seen-all xs)

pub any-some : {A : Type 0} (p : Mark → Bool) (f : A → Mark) (x : Option A) → list_any p (if_some f x) ≡ list_any (λ y. p (f y)) (to_list x)
any-some p f x = grind arith

pub any-end : (p : Mark → Bool) (b : Bool) → list_any p (cond b (ClosesSession ∷ []) []) ≡ cond b (p ClosesSession || false) false
any-end p b = grind arith

pub any-none : {A : Type 0} (xs : List A) → list_any (λ (x : A). false) xs ≡ false
any-none [] = refl
any-none (x ∷ xs) = any-none xs

pub either : {A : Type 0} (b : Bool) (x : A) → cond b x x ≡ x
either b x = grind arith

pub ruleset views = (filter_map-append, seen-map, seen-some, seen-end, seen-none, seen-all, either, append-nil)

pub ruleset tests = (list_any-append, list_any-map, any-some, any-end, any-none, either, or_false)
