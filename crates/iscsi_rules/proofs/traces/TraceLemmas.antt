-- What one item more changes of what follows from a trace.
use Rattle.std.proofs.Common.{arith, ◌≡◌, ℕ, ◌==◌, ◌||◌, not, cond, Bool, true, false, List, [], ◌∷◌, ◌++◌, filter, refl, ap, ◌∙◌}
use Rattle.std.specs.List.{list_any, list_all, filter_map}
use Rattle.std.proofs.lemmas.List.{append-nil}
use Rattle.std.proofs.lemmas.List.Elements.{filter-append}
use Rattle.std.proofs.lemmas.List.Folds.{list_any-append}
use Rattle.iscsi_rules.specs.rules.Trace.{Command, Mark, Trace, after_items, has, shown, enters, entered, leaves_ticket, live, is_among, received, is_received, contains, number_received, admits_at}

-- ---- filters

pub filter-same : {A : Type 0} (p q : A → Bool) (xs : List A) → ((x : A) → p x ≡ q x) → filter p xs ≡ filter q xs
filter-same p q [] h = refl
filter-same p q (x ∷ xs) h = ap (λ b. cond b (x ∷ filter p xs) (filter p xs)) (h x) ∙ ap (λ ys. cond (q x) (x ∷ ys) ys) (filter-same p q xs h)

pub filter-true : {A : Type 0} (xs : List A) → filter (λ x. true) xs ≡ xs
filter-true [] = refl
filter-true (x ∷ xs) = ap (λ ys. x ∷ ys) (filter-true xs)

filter-nor : {A : Type 0} (a b : A → Bool) (xs : List A) → filter (λ x. not (a x || b x)) xs ≡ filter (λ x. not (a x)) (filter (λ x. not (b x)) xs)
filter-nor a b [] = refl
filter-nor a b (x ∷ xs) = grind (arith, filter-nor a b xs)

-- ---- live commands

-- those of before that don't leave in the item, and those that enter in it
pub live-item : (item : List Mark) (t : Trace)
    → live (item ∷ t) ≡ filter (λ c. not (list_any (leaves_ticket c.ticket) item)) (live t) ++ filter (λ c. not (has (leaves_ticket c.ticket) (item ∷ t))) (filter_map enters item)
live-item item t =
    filter-append (λ (c : Command). not (has (leaves_ticket c.ticket) (item ∷ t))) (entered t) (filter_map enters item)
    ∙ ap (λ cs. cs ++ filter (λ (c : Command). not (has (leaves_ticket c.ticket) (item ∷ t))) (filter_map enters item)) (filter-nor (λ (c : Command). list_any (leaves_ticket c.ticket) item) (λ (c : Command). has (leaves_ticket c.ticket) t) (entered t))

-- nothing enters or leaves
pub live-quiet : (item : List Mark) (t : Trace) → filter_map enters item ≡ [] → ((k : ℕ) → list_any (leaves_ticket k) item ≡ false) → live (item ∷ t) ≡ live t
live-quiet item t none quiet =
    live-item item t
    ∙ ap (λ cs. filter (λ (c : Command). not (list_any (leaves_ticket c.ticket) item)) (live t) ++ filter (λ (c : Command). not (has (leaves_ticket c.ticket) (item ∷ t))) cs) none
    ∙ append-nil (filter (λ (c : Command). not (list_any (leaves_ticket c.ticket) item)) (live t))
    ∙ filter-same (λ (c : Command). not (list_any (leaves_ticket c.ticket) item)) (λ c. true) (live t) (λ c. ap not (quiet c.ticket))
    ∙ filter-true (live t)

-- one command enters, of a ticket that didn't leave
pub live-enters : (item : List Mark) (t : Trace) (c : Command) → filter_map enters item ≡ c ∷ [] → ((k : ℕ) → list_any (leaves_ticket k) item ≡ false) → has (leaves_ticket c.ticket) t ≡ false → live (item ∷ t) ≡ live t ++ c ∷ []
live-enters item t c one quiet unleft =
    live-item item t
    ∙ ap (λ cs. filter (λ (d : Command). not (list_any (leaves_ticket d.ticket) item)) (live t) ++ filter (λ (d : Command). not (has (leaves_ticket d.ticket) (item ∷ t))) cs) one
    ∙ ap (λ cs. cs ++ filter (λ (d : Command). not (has (leaves_ticket d.ticket) (item ∷ t))) (c ∷ [])) (filter-same (λ (d : Command). not (list_any (leaves_ticket d.ticket) item)) (λ d. true) (live t) (λ d. ap not (quiet d.ticket)) ∙ filter-true (live t))
    ∙ ap (λ b. live t ++ cond (not (b || has (leaves_ticket c.ticket) t)) (c ∷ []) []) (quiet c.ticket)
    ∙ ap (λ b. live t ++ cond (not b) (c ∷ []) []) unleft

-- the commands with these tickets leave
pub live-leaves : (item : List Mark) (t : Trace) (out : ℕ → Bool) → filter_map enters item ≡ [] → ((k : ℕ) → list_any (leaves_ticket k) item ≡ out k) → live (item ∷ t) ≡ filter (λ c. not (out c.ticket)) (live t)
live-leaves item t out none some = grind (arith, live-item, append-nil)

-- ---- enabled commands

pub weaker : {A : Type 0} (p q : A → Bool) (xs : List A) → ((x : A) → p x ≡ true → q x ≡ true) → list_all p xs ≡ true → list_all q xs ≡ true
weaker p q [] h all = refl
weaker p q (x ∷ xs) h all = grind (arith, weaker p q xs)

pub all_among : (xs : List Command) → list_all (λ c. is_among c.ticket xs) xs ≡ true
all_among [] = refl
all_among (x ∷ xs) = grind (arith, all_among xs, weaker)

-- ---- received numbers and admitted requests

pub received-item : (item : List Mark) (t : Trace) (n : ℕ) → is_received (item ∷ t) n ≡ (is_received t n || contains (filter_map number_received item) n)
received-item item t n = list_any-append (λ k. k == n) (received t) (filter_map number_received item)

unadmitted_item : (n : ℕ) (item : List Mark) → contains (filter_map number_received item) n ≡ false → filter_map (admits_at n) item ≡ []
unadmitted_item n [] h = refl
unadmitted_item n (mark ∷ marks) h = grind (arith, unadmitted_item n marks)

-- nothing is admitted at a number that isn't received
pub unadmitted : (n : ℕ) (t : Trace) → is_received t n ≡ false → shown (admits_at n) t ≡ []
unadmitted n [] h = refl
unadmitted n (item ∷ t) h = grind (arith, unadmitted n t, received-item, unadmitted_item)

-- ---- some items more

pub after_items-append : (now later : List (List Mark)) (t : Trace) → after_items (now ++ later) t ≡ after_items later (after_items now t)
after_items-append [] later t = refl
after_items-append (item ∷ now) later t = after_items-append now later (item ∷ t)
