-- An element of a list is replaced.
use Rattle.std.specs.Prelude.{◌≡◌, ℕ, zero, suc, ◌<◌, List, [], ◌∷◌, ◌++◌, length, map, refl, Option, None, Some, IfNone, Result, Ok, Err, OnOk, IfOk, IfErr}
use Rattle.std.proofs.Common.{ap, subst, sym, ◌∙◌, arith, get_or, set}
use Rattle.std.proofs.Math.Seq.{map-set_same}
use Rattle.std.proofs.lemmas.List.{map-set, length-map, get_or-map}
use Rattle.iscsi_threads.specs.private.Ends.{grow, put_jobs}
use Rattle.iscsi_threads.specs.declared.job.Job.{Job}

-- f of each is as it was
pub map_kept : {A B : Type 0} (f : A → B) (l : List A) (i : ℕ) (x y : A) → x ≡ get_or l i x → f y ≡ f x → map f (set l i y) ≡ map f l
map_kept {A} {B} f l i x y is same = map-set_same f l i y x (same ∙ ap f is)

-- f of it is longer by one
pub map_grown : {A B : Type 0} (f : A → List B) (l : List A) (i : ℕ) (x y : A) (b : B) → x ≡ get_or l i x → i < length l → f y ≡ f x ++ b ∷ [] → map f (set l i y) ≡ grow (map f l) i b
map_grown {A} {B} f l i x y b is lt same =
    map-set f l i y ∙ ap (λ (z : List B). set (map f l) i z) (same ∙ ap (λ (w : List B). w ++ b ∷ []) (ap f is ∙ sym (get_or-map f l i x [] lt)))

-- what is known of each, where what is known of it may be less
pub each_set : {A : Type 0} (P Q : A → Type 0) (l : List A) (i : ℕ) (x y : A) → x ≡ get_or l i x → i < length l → ((z : A) → P z → Q z) → (P x → Q y)
    → ((k : ℕ) (d : A) → k < length l → P (get_or l k d)) → (k : ℕ) (d : A) → k < length (set l i y) → Q (get_or (set l i y) k d)
each_set {A} P Q [] i x y is lt weaker here each k d low = absurd (omega arith)
each_set {A} P Q (z ∷ l) zero x y is lt weaker here each zero d low = here (subst P (sym is) (each zero d (omega arith)))
each_set {A} P Q (z ∷ l) zero x y is lt weaker here each (suc k) d low = weaker _ (each (suc k) d low)
each_set {A} P Q (z ∷ l) (suc i) x y is lt weaker here each zero d low = weaker _ (each zero d (omega arith))
each_set {A} P Q (z ∷ l) (suc i) x y is lt weaker here each (suc k) d low =
    each_set P Q l i x y is (omega arith) weaker here (λ j e lo. each (suc j) e (omega arith)) k d (omega arith)

pub on_ok : {X E : Type 0} {P Q : Type 0} (r : Result X E) → OnOk r P → (P → Q) → OnOk r Q
on_ok (Ok x) p f = f p
on_ok (Err e) p f = p

pub if_err : {X E : Type 0} {P Q : E → Type 0} (r : Result X E) → IfErr r P → ((e : E) → P e → Q e) → IfErr r Q
if_err (Ok x) p f = p
if_err (Err e) p f = f e p

pub if_ok : {X E : Type 0} {P Q : X → Type 0} (r : Result X E) → IfOk r P → ((x : X) → P x → Q x) → IfOk r Q
if_ok (Ok x) p f = f x p
if_ok (Err e) p f = p

pub if_none : {X : Type 0} {P Q : Type 0} (r : Option X) → IfNone r P → (P → Q) → IfNone r Q
if_none None p f = f p
if_none (Some x) p f = p

-- first these jobs, then those
pub put_jobs_append : (js ks : List Job) (jobs : List (List Job)) → put_jobs (js ++ ks) jobs ≡ put_jobs ks (put_jobs js jobs)
put_jobs_append [] ks jobs = refl
put_jobs_append (j ∷ js) ks jobs = put_jobs_append js ks (grow jobs j.unit j)

-- two lists that agree under f and g do so at each place
pub map_at : {A B C : Type 0} (f : A → C) (g : B → C) (xs : List A) (ys : List B) (i : ℕ) (x : A) (y : B)
    → map f xs ≡ map g ys → i < length xs → i < length ys → f (get_or xs i x) ≡ g (get_or ys i y)
map_at {A} {B} {C} f g xs ys i x y same lt lt' =
    let e = f x in
    sym (get_or-map f xs i x e lt) ∙ ap (λ (l : List C). get_or l i e) same ∙ get_or-map g ys i y e lt'

-- below the length the default doesn't matter
pub get_same : {A : Type 0} (l : List A) (i : ℕ) (d e : A) → i < length l → get_or l i d ≡ get_or l i e
get_same [] i d e lt = absurd (omega arith)
get_same (x ∷ l) zero d e lt = refl
get_same (x ∷ l) (suc i) d e lt = get_same l i d e (omega arith)

-- some element, of a list that has one
pub some_of : {A : Type 0} (l : List A) (i : ℕ) → i < length l → A
some_of [] i lt = absurd (omega arith)
some_of (x ∷ l) i lt = x

pub same_length : {A B C : Type 0} (f : A → C) (g : B → C) (xs : List A) (ys : List B) → map f xs ≡ map g ys → length xs ≡ length ys
same_length f g xs ys same = sym (length-map xs f) ∙ ap length same ∙ length-map ys g
