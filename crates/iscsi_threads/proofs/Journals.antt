-- A journal that is longer by one event.
use Rattle.std.specs.Prelude.{◌≡◌, ℕ, zero, suc, ◌+◌, ◌<◌, ◌≤◌, ◌≢◌, Bool, true, false, cond, ◌&&◌, List, [], ◌∷◌, ◌++◌, length, map, nat_eq, nat_lt, refl}
use Rattle.std.specs.List.{range_with_len}
use Rattle.std.proofs.Common.{ap, sym, ◌∙◌, arith, get_or, append_assoc, append-nil, ⊎_elim}
use Rattle.std.proofs.lemmas.Bool.{cases_lt}
use Rattle.std.proofs.lemmas.List.{length-map, set_past}
use Rattle.std.proofs.lemmas.Bool.Decides.{nat_tests}
use Rattle.iscsi_rules.specs.declared.event.Event.{Event}
use Rattle.iscsi_rules.specs.declared.event.Event.TheVariants.{Arrive, Done}
use Rattle.iscsi_threads.specs.declared.job.Job.{Job}
use Rattle.iscsi_threads.specs.rules.Ports.{Answer}
use Rattle.iscsi_threads.specs.private.Ends.{grow, put_jobs, Polled}
use Rattle.iscsi_threads.specs.rules.Journal.{part, done, jobs_of, parts, dones, is_source, are_sources, AllDiffer}

-- equal at each place
pub map_same : {X : Type 0} (F G : ℕ → X) (keys : List ℕ) → ((k : ℕ) → k < length keys → G (get_or keys k 0) ≡ F (get_or keys k 0)) → map G keys ≡ map F keys
map_same F G [] same = refl
map_same {X} F G (c ∷ cs) same =
    let here : G c ≡ F c = same zero (omega arith) in
    let rest : map G cs ≡ map F cs = map_same F G cs (λ k lt. same (suc k) (omega arith)) in cc

-- longer by x at the place i, and equal at the others
pub map_grow : {X : Type 0} (F G : ℕ → List X) (keys : List ℕ) (i : ℕ) (x : X) → i < length keys → G (get_or keys i 0) ≡ F (get_or keys i 0) ++ x ∷ []
    → ((k : ℕ) → k < length keys → k ≢ i → G (get_or keys k 0) ≡ F (get_or keys k 0)) → map G keys ≡ grow (map F keys) i x
map_grow F G [] i x lt here others = absurd (omega arith)
map_grow F G (c ∷ cs) zero x lt here others =
    let rest : map G cs ≡ map F cs = map_same F G cs (λ k lo. others (suc k) (omega arith) (omega arith)) in
    let first : G c ≡ F c ++ x ∷ [] = here in cc
map_grow F G (c ∷ cs) (suc i) x lt here others =
    let first : G c ≡ F c = others zero (omega arith) (omega arith) in
    let rest : map G cs ≡ grow (map F cs) i x = map_grow F G cs i x (omega arith) here (λ k lo ne. others (suc k) (omega arith) (omega arith)) in cc

pub if_more : {X : Type 0} (b : Bool) (x : X) (xs ys zs : List X) → xs ≡ ys ++ zs → cond b (x ∷ xs) xs ≡ cond b (x ∷ ys) ys ++ zs
if_more {X} true x xs ys zs e = ap (λ (l : List X). x ∷ l) e
if_more false x xs ys zs e = e

pub part_snoc : (c : ℕ) (es : List Event) (e : Event) → part c (es ++ e ∷ []) ≡ part c es ++ part c (e ∷ [])
part_snoc c [] e = refl
part_snoc c (Arrive d x ∷ es) e = if_more (nat_eq d c) x _ _ _ (part_snoc c es e)
part_snoc c (Done t s ∷ es) e = part_snoc c es e

pub done_snoc : (u : ℕ) (es : List Event) (fs : List ℕ) (e : Event) (f : ℕ) → length es ≡ length fs → done u (es ++ e ∷ []) (fs ++ f ∷ []) ≡ done u es fs ++ done u (e ∷ []) (f ∷ [])
done_snoc u [] [] e f len = refl
done_snoc u [] (g ∷ fs) e f len = absurd (omega arith)
done_snoc u (d ∷ es) [] e f len = absurd (omega arith)
done_snoc u (Arrive c x ∷ es) (g ∷ fs) e f len = done_snoc u es fs e f (omega arith)
done_snoc u (Done t s ∷ es) (g ∷ fs) e f len = if_more (nat_eq g u) ((t, s)) _ _ _ (done_snoc u es fs e f (omega arith))

and_more : (a b c : Bool) → a && b ≡ true → (b ≡ true → c ≡ true) → a && c ≡ true
and_more true b c h f = f h
and_more false b c h f = h

pub sources_snoc : (cids : List ℕ) (n : ℕ) (es : List Event) (fs : List ℕ) (e : Event) (f : ℕ) → are_sources cids n es fs ≡ true → is_source cids n e f ≡ true → are_sources cids n (es ++ e ∷ []) (fs ++ f ∷ []) ≡ true
sources_snoc cids n [] [] e f all one = rw one refl
sources_snoc cids n [] (g ∷ fs) e f all one = cc
sources_snoc cids n (d ∷ es) [] e f all one = cc
sources_snoc cids n (d ∷ es) (g ∷ fs) e f all one = and_more (is_source cids n d g) _ _ all (λ h. sources_snoc cids n es fs e f h one)

pub range_get : (a n i : ℕ) → i < n → get_or (range_with_len a n) i 0 ≡ a + i
range_get a zero i lt = absurd (omega arith)
range_get a (suc n) zero lt = omega arith
range_get a (suc n) (suc i) lt = omega (arith, range_get (a + 1) n i (omega arith))

pub range_length : (a n : ℕ) → length (range_with_len a n) ≡ n
range_length a zero = refl
range_length a (suc n) = ap suc (range_length (a + 1) n)

pub zero_range_get : (n i : ℕ) → i < n → get_or (range_with_len 0 n) i 0 ≡ i
zero_range_get n i lt = range_get 0 n i lt ∙ omega arith

if_append : {X : Type 0} (b : Bool) (x : X) (xs : List X) → cond b (x ∷ xs) xs ≡ cond b (x ∷ []) [] ++ xs
if_append true x xs = refl
if_append false x xs = refl

pub jobs_of_cons : (u : ℕ) (j : Job) (js : List Job) → jobs_of u (j ∷ js) ≡ jobs_of u (j ∷ []) ++ jobs_of u js
jobs_of_cons u j js = if_append (nat_eq j.unit u) j (jobs_of u js)

pub jobs_of_append : (u : ℕ) (js ks : List Job) → jobs_of u (js ++ ks) ≡ jobs_of u js ++ jobs_of u ks
jobs_of_append u [] ks = refl
jobs_of_append u (j ∷ js) ks = if_more (nat_eq j.unit u) j _ _ _ (jobs_of_append u js ks)

-- the one job goes to its unit, if it is there
pub put_one : (n : ℕ) (F : ℕ → List Job) (j : Job) → grow (map F (range_with_len 0 n)) j.unit j ≡ map (λ u. F u ++ jobs_of u (j ∷ [])) (range_with_len 0 n)
put_one n F j = ⊎_elim inside past (cases_lt j.unit n)
  where
    len : length (range_with_len 0 n) ≡ n
    len = range_length 0 n

    inside : j.unit < n → grow (map F (range_with_len 0 n)) j.unit j ≡ map (λ u. F u ++ jobs_of u (j ∷ [])) (range_with_len 0 n)
    inside below =
        let at : get_or (range_with_len 0 n) j.unit 0 ≡ j.unit = zero_range_get n j.unit below in
        let size = len in
        let same : nat_eq j.unit j.unit ≡ true = grind (arith, nat_tests) in
        sym (map_grow F (λ u. F u ++ jobs_of u (j ∷ [])) (range_with_len 0 n) j.unit j (omega arith)
        (rw at (ap (λ (b : Bool). F j.unit ++ cond b (j ∷ []) []) same))
        (λ k lo ne.
        let there : get_or (range_with_len 0 n) k 0 ≡ k = zero_range_get n k (omega arith) in
        let other : nat_eq j.unit k ≡ false = grind (arith, nat_tests) in
        rw there (ap (λ (b : Bool). F k ++ cond b (j ∷ []) []) other ∙ append-nil (F k))))

    past : n ≤ j.unit → grow (map F (range_with_len 0 n)) j.unit j ≡ map (λ u. F u ++ jobs_of u (j ∷ [])) (range_with_len 0 n)
    past above =
        let size = len in
        let mapped = length-map (range_with_len 0 n) F in
        set_past (map F (range_with_len 0 n)) j.unit _ (omega arith)
        ∙ map_same _ F (range_with_len 0 n) (λ k lo.
        let there : get_or (range_with_len 0 n) k 0 ≡ k = zero_range_get n k (omega arith) in
        let other : nat_eq j.unit k ≡ false = grind (arith, nat_tests) in
        rw there (sym (ap (λ (b : Bool). F k ++ cond b (j ∷ []) []) other ∙ append-nil (F k))))

pub put_every : (n : ℕ) (F : ℕ → List Job) (js : List Job) → put_jobs js (map F (range_with_len 0 n)) ≡ map (λ u. F u ++ jobs_of u js) (range_with_len 0 n)
put_every n F [] = map_same _ _ (range_with_len 0 n) (λ k lt. sym (append-nil _))
put_every n F (j ∷ js) =
    let G : ℕ → List Job = λ u. F u ++ jobs_of u (j ∷ []) in
    ap (put_jobs js) (put_one n F j)
    ∙ put_every n G js
    ∙ map_same _ _ (range_with_len 0 n) (λ k lt. let u = get_or (range_with_len 0 n) k 0 in append_assoc (F u) (jobs_of u (j ∷ [])) (jobs_of u js) ∙ ap (λ (l : List Job). F u ++ l) (sym (jobs_of_cons u j js)))

-- the lists of headers after an event that was polled
pub heads_after : (cids : List ℕ) (j : List Event) (heads' : List (List (List ℕ))) (ds ds' : List (List Answer)) (e : Event) (f : ℕ)
    → AllDiffer cids → Polled cids (parts cids j) heads' ds ds' e f → heads' ≡ parts cids (j ++ e ∷ [])
heads_after cids j heads' ds ds' (Arrive c x) f differ polled =
    let is : c ≡ get_or cids f 0 = polled.1 in
    let same : nat_eq c c ≡ true = grind (arith, nat_tests) in
    polled.2
    ∙ sym (map_grow (λ k. part k j) (λ k. part k (j ++ Arrive c x ∷ [])) cids f x polled.0
    (rw (← is) (part_snoc c j (Arrive c x) ∙ ap (λ (b : Bool). part c j ++ cond b (x ∷ []) []) same))
    (λ k lo ne.
    let other : nat_eq c (get_or cids k 0) ≡ false = let d = differ f k polled.0 lo ne in grind (arith, nat_tests) in
    part_snoc _ j (Arrive c x) ∙ ap (λ (b : Bool). part (get_or cids k 0) j ++ cond b (x ∷ []) []) other ∙ append-nil _))
heads_after cids j heads' ds ds' (Done t s) f differ polled =
    polled.1 ∙ map_same _ _ cids (λ k lt. sym (part_snoc _ j (Done t s) ∙ append-nil _))

-- the lists of answers after an event that was polled
pub dones_after : (cids : List ℕ) (n : ℕ) (j : List Event) (from : List ℕ) (hs hs' : List (List (List ℕ))) (ds' : List (List Answer)) (e : Event) (f : ℕ)
    → length j ≡ length from → Polled cids hs hs' (dones n j from) ds' e f → ds' ≡ dones n (j ++ e ∷ []) (from ++ f ∷ [])
dones_after cids n j from hs hs' ds' (Arrive c x) f len polled =
    polled.3 ∙ map_same _ _ (range_with_len 0 n) (λ k lt. sym (done_snoc _ j from (Arrive c x) f len ∙ append-nil _))
dones_after cids n j from hs hs' ds' (Done t s) f len polled =
    let size = range_length 0 n in
    let low : f < n = let l = length-map (range_with_len 0 n) (λ u. done u j from) in omega (arith, polled.0) in
    let at : get_or (range_with_len 0 n) f 0 ≡ f = zero_range_get n f low in
    let same : nat_eq f f ≡ true = grind (arith, nat_tests) in
    let a : Answer = (t, s) in
    polled.2
    ∙ sym (map_grow (λ u. done u j from) _ (range_with_len 0 n) f a (omega arith)
    (rw at (done_snoc f j from (Done t s) f len ∙ ap (λ (b : Bool). done f j from ++ cond b (a ∷ []) []) same))
    (λ k lo ne.
    let there : get_or (range_with_len 0 n) k 0 ≡ k = zero_range_get n k (omega arith) in
    let other : nat_eq f k ≡ false = grind (arith, nat_tests) in
    rw there (done_snoc k j from (Done t s) f len ∙ ap (λ (b : Bool). done k j from ++ cond b (a ∷ []) []) other ∙ append-nil _)))

pub source_of_polled : (cids : List ℕ) (n : ℕ) (hs hs' : List (List (List ℕ))) (ds ds' : List (List Answer)) (e : Event) (f : ℕ)
    → length ds ≡ n → Polled cids hs hs' ds ds' e f → is_source cids n e f ≡ true
source_of_polled cids n hs hs' ds ds' (Arrive c x) f len polled =
    let lt : nat_lt f (length cids) ≡ true = let h = polled.0 in grind (arith, nat_tests) in
    let eq : nat_eq (get_or cids f 0) c ≡ true = let h = polled.1 in grind (arith, nat_tests) in rw (lt, eq) refl
source_of_polled cids n hs hs' ds ds' (Done t s) f len polled = let h = polled.0 in grind (arith, nat_tests)
