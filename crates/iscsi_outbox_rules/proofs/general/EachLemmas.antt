-- What holds of each element of a list.
use Rattle.std.proofs.Common.{◌≡◌, ℕ, ◌==◌, ◌||◌, cond, Bool, true, false, List, [], ◌∷◌, ◌++◌, map, filter, drop, Some, refl, subst}
use Rattle.std.specs.List.{list_any}
use Rattle.std.proofs.lemmas.Bool.{false≢true, cond_both, eqb-true}
use Rattle.iscsi_rules.specs.rules.Trace.{first_of}
use Rattle.iscsi_outbox_rules.specs.rules.Boxes.{Link}
use Rattle.iscsi_outbox_rules.specs.rules.Queues.{at_link}

abbrev pub EachOf : {A : Type 0} → (A → Type 0) → List A → Type 0
EachOf P [] = Unit {0}
EachOf P (x ∷ xs) = P x × EachOf P xs

pub each-append : {A : Type 0} (P : A → Type 0) (xs ys : List A) → EachOf P xs → EachOf P ys → EachOf P (xs ++ ys)
each-append P [] ys h k = k
each-append P (x ∷ xs) ys h k = (h.0, each-append P xs ys h.1 k)

pub each-first : {A : Type 0} (P : A → Type 0) (xs ys : List A) → EachOf P (xs ++ ys) → EachOf P xs
each-first P [] ys h = tt
each-first P (x ∷ xs) ys h = (h.0, each-first P xs ys h.1)

pub each-second : {A : Type 0} (P : A → Type 0) (xs ys : List A) → EachOf P (xs ++ ys) → EachOf P ys
each-second P [] ys h = h
each-second P (x ∷ xs) ys h = each-second P xs ys h.1

pub each-weaken : {A : Type 0} (P Q : A → Type 0) (xs : List A) → ((x : A) → P x → Q x) → EachOf P xs → EachOf Q xs
each-weaken P Q [] f h = tt
each-weaken P Q (x ∷ xs) f h = (f x h.0, each-weaken P Q xs f h.1)

pub each-map : {A B : Type 0} (P : A → Type 0) (Q : B → Type 0) (g : A → B) (xs : List A) → ((x : A) → P x → Q (g x)) → EachOf P xs → EachOf Q (map g xs)
each-map P Q g [] f h = tt
each-map P Q g (x ∷ xs) f h = (f x h.0, each-map P Q g xs f h.1)

pub each-filter : {A : Type 0} (P : A → Type 0) (p : A → Bool) (xs : List A) → EachOf P xs → EachOf P (filter p xs)
each-filter P p [] h = tt
each-filter P p (x ∷ xs) h = cond_both (p x) (x ∷ filter p xs) (filter p xs) (EachOf P) (λ is. (h.0, each-filter P p xs h.1)) (λ is. each-filter P p xs h.1)

-- the first that passes
pub each-first_of : {A : Type 0} (P : A → Type 0) (p : A → Bool) (xs : List A) (x : A) → first_of (filter p xs) ≡ Some x → EachOf P xs → P x
each-first_of P p [] x found h = absurd cc
each-first_of P p (y ∷ xs) x found h =
    elim (p y) as (λ b. first_of (cond b (y ∷ filter p xs) (filter p xs)) ≡ Some x → P x) [
      | true ↦ λ here. let same : y ≡ x = cc in subst P same h.0
      | false ↦ λ later. each-first_of P p xs x later h.1
    ] found

-- one that passes
pub each-any : {A : Type 0} (P : A → Type 0) (p : A → Bool) (xs : List A) → list_any p xs ≡ true → EachOf P xs → (x : A) × (p x ≡ true) × P x
each-any {A = A} P p [] some h = absurd (false≢true some)
each-any {A = A} P p (y ∷ xs) some h =
    elim (p y) as (λ b. p y ≡ b → (b || list_any p xs) ≡ true → (x : A) × (p x ≡ true) × P x) [
      | true ↦ λ is here. (y, is, h.0)
      | false ↦ λ is later. each-any P p xs later h.1
    ] refl some

pub each-at_link : (P Q : Link → Type 0) (conn : ℕ) (change : Link → Link) (links : List Link)
    → ((l : Link) → l.conn ≡ conn → P l → Q (change l)) → ((l : Link) → (l.conn == conn) ≡ false → P l → Q l) → EachOf P links → EachOf Q (at_link conn change links)
each-at_link P Q conn change links here there h =
    each-map P Q (λ (l : Link). cond (l.conn == conn) (change l) l) links
    (λ l k. cond_both (l.conn == conn) (change l) l Q (λ is. here l (eqb-true l.conn conn is) k) (λ isnt. there l isnt k)) h

pub each-drop_one : {A : Type 0} (P : A → Type 0) (xs : List A) → EachOf P xs → EachOf P (drop 1 xs)
each-drop_one P [] h = tt
each-drop_one P (x ∷ xs) h = h.1
