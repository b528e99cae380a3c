-- Which commands an item enables.
use Rattle.std.proofs.Common.{◌≡◌, ℕ, zero, suc, ◌+◌, ◌<◌, ◌≤◌, ◌==◌, ◌&&◌, ◌||◌, not, cond, Bool, true, false, List, [], ◌∷◌, ◌++◌, filter, refl, ap, sym, ◌∙◌, arith, nat_lt}
use Rattle.std.specs.List.{list_any, list_all, filter_map, flat_map, range_with_len}
use Rattle.std.proofs.lemmas.List.{append-nil, map-append}
use Rattle.std.proofs.lemmas.List.Elements.{filter-append}
use Rattle.std.proofs.lemmas.List.Folds.{list_any-append}
use Rattle.std.proofs.lemmas.Bool.Decides.{nat_tests}
use Rattle.iscsi_tasks.specs.Sets.{Queued, bars, is_free}
use Rattle.iscsi_rules.specs.rules.Settings.{Setting}
use Rattle.iscsi_rules.specs.rules.Trace.{Command, Mark, Trace, enters, entered, leaves_ticket, live, live_in, is_among, was_free, enabled_in}
use Rattle.iscsi_rules.specs.rules.Run.{newly_enabled}
use Rattle.iscsi_rules.proofs.general.BoolLemmas.{and_parts, or_none, not_true, and_false, and_comm, and_true}
use Rattle.iscsi_rules.proofs.traces.ApartLemmas.{unamong-filter}
use Rattle.iscsi_rules.proofs.traces.TraceLemmas.{all_among, live-quiet}
use Rattle.iscsi_rules.proofs.general.ListLemmas.{all_of_filter, any_filter, any_flat_map, any_same}
use Rattle.iscsi_rules.proofs.items.DeedLemmas.{any-none}
use Rattle.iscsi_rules.proofs.promises.MomentLemmas.{free_now}

pub filter_all : {A : Type 0} (f g : A → Bool) (p : A → Bool) (xs : List A) → list_all p xs ≡ true → ((x : A) → p x ≡ true → f x ≡ g x) → filter f xs ≡ filter g xs
filter_all f g p [] all same = refl
filter_all f g p (x ∷ xs) all same = grind (arith, filter_all f g p xs)

pub filter-none : {A : Type 0} (f : A → Bool) (xs : List A) → ((x : A) → f x ≡ false) → filter f xs ≡ []
filter-none f [] none = refl
filter-none f (x ∷ xs) none = ap (λ b. cond b (x ∷ filter f xs) (filter f xs)) (none x) ∙ filter-none f xs none

pub filter-twice : {A : Type 0} (f g : A → Bool) (xs : List A) → filter f (filter g xs) ≡ filter (λ x. g x && f x) xs
filter-twice f g [] = refl
filter-twice f g (x ∷ xs) = grind (arith, filter-twice f g xs)

pub both_all : {A : Type 0} (p q : A → Bool) (xs : List A) → list_all p xs ≡ true → list_all q xs ≡ true → list_all (λ x. p x && q x) xs ≡ true
both_all p q [] h k = refl
both_all p q (x ∷ xs) h k = grind (arith, both_all p q xs)

-- ---- the live commands of a unit

abbrev pub is_here : ℕ → List Command → Command → Bool
is_here unit here c = (c.unit == unit) && is_among c.ticket here

-- each of them is in the unit and among them
pub all_here : (unit : ℕ) (t : Trace) → list_all (is_here unit (live_in unit t)) (live_in unit t) ≡ true
all_here unit t = both_all (λ c. c.unit == unit) (λ c. is_among c.ticket (live_in unit t)) (live_in unit t) (all_of_filter (λ (c : Command). c.unit == unit) (live t)) (all_among (live_in unit t))

-- a command that never entered was never free
pub never_free : (c : Command) (t : Trace) → is_among c.ticket (entered t) ≡ false → was_free c t ≡ false
never_free c [] gone = refl
never_free c (item ∷ t) gone = grind (arith, never_free c t, list_any-append, unamong-filter)

-- who is free among more is free among fewer
free_among_fewer : (q : Queued) (xs ys : List Queued) → is_free q (xs ++ ys) ≡ true → is_free q xs ≡ true
free_among_fewer q xs ys h = ap not (or_none (list_any (bars q) xs) (list_any (bars q) ys) (sym (list_any-append (bars q) xs ys) ∙ not_true (list_any (bars q) (xs ++ ys)) h)).0

-- nothing changes for a command of a unit that others enter, or that nothing enters or leaves
pub was_free-stays : (item : List Mark) (t : Trace) (unit : ℕ) (more : List Command) (c : Command) → live_in unit (item ∷ t) ≡ live_in unit t ++ more → is_here unit (live_in unit t) c ≡ true → was_free c (item ∷ t) ≡ was_free c t
was_free-stays item t unit more c now here = grind (arith, free_among_fewer, map-append, free_now)

-- the commands of a unit that an item enables
abbrev pub new_in : Trace → List Mark → ℕ → List Command
new_in t item unit = filter (λ c. not (was_free c t)) (enabled_in unit (item ∷ t))

-- none of them is newly enabled
none_of_before : (item : List Mark) (t : Trace) (unit : ℕ) (more : List Command) → live_in unit (item ∷ t) ≡ live_in unit t ++ more → filter (λ c. was_free c (item ∷ t) && not (was_free c t)) (live_in unit t) ≡ []
none_of_before item t unit more now =
    filter_all (λ c. was_free c (item ∷ t) && not (was_free c t)) (λ c. false) (is_here unit (live_in unit t)) (live_in unit t) (all_here unit t)
    (λ c here. ap (λ b. b && not (was_free c t)) (was_free-stays item t unit more c now here) ∙ never (was_free c t))
    ∙ filter-none (λ (c : Command). false) (live_in unit t) (λ c. refl)
  where
    never : (b : Bool) → (b && not b) ≡ false
    never b = grind arith

pub new_in-more : (item : List Mark) (t : Trace) (unit : ℕ) (more : List Command) → live_in unit (item ∷ t) ≡ live_in unit t ++ more → new_in t item unit ≡ filter (λ c. was_free c (item ∷ t) && not (was_free c t)) more
new_in-more item t unit more now = grind (arith, nat_tests, filter-twice, filter-append, none_of_before item t unit more now)

pub new_in-none : (item : List Mark) (t : Trace) (unit : ℕ) → live_in unit (item ∷ t) ≡ live_in unit t → new_in t item unit ≡ []
new_in-none item t unit now = new_in-more item t unit [] (now ∙ sym (append-nil (live_in unit t)))

-- ---- all units

pub flat_map-none : {A : Type 0} (f : ℕ → List A) (from n : ℕ) → ((j : ℕ) → from ≤ j → f j ≡ []) → flat_map f (range_with_len from n) ≡ []
flat_map-none f from zero none = refl
flat_map-none f from (suc n) none = ap (λ ys. ys ++ flat_map f (range_with_len (from + 1) n)) (none from (omega arith)) ∙ flat_map-none f (from + 1) n (λ j le. none j (omega arith))

-- an item that touches no unit enables nothing
pub newly-none : (o : Setting) (item : List Mark) (t : Trace) → ((unit : ℕ) → live_in unit (item ∷ t) ≡ live_in unit t) → newly_enabled o t item ≡ []
newly-none o item t same = flat_map-none (new_in t item) 0 o.units (λ unit le. new_in-none item t unit (same unit))

-- ---- an item that nothing enters or leaves by

pub record Untouched (item : List Mark) : Type 0 where
  pub enters_none : filter_map enters item ≡ []
  pub leaves_no : (k : ℕ) → list_any (leaves_ticket k) item ≡ false

pub live-untouched : (item : List Mark) (t : Trace) → Untouched item → live (item ∷ t) ≡ live t
live-untouched item t u = live-quiet item t u.enters_none u.leaves_no

pub live_in-untouched : (item : List Mark) (t : Trace) → Untouched item → (unit : ℕ) → live_in unit (item ∷ t) ≡ live_in unit t
live_in-untouched item t u unit = ap (filter (λ (c : Command). c.unit == unit)) (live-untouched item t u)

pub newly-untouched : (o : Setting) (t : Trace) (item : List Mark) → Untouched item → newly_enabled o t item ≡ []
newly-untouched o t item u = newly-none o item t (live_in-untouched item t u)

-- ---- a command leaves

abbrev pub is_new : List Mark → Trace → Command → Bool
is_new item t c = was_free c (item ∷ t) && not (was_free c t)

pub any_or : {A : Type 0} (f g h : A → Bool) (xs : List A) → ((x : A) → f x ≡ (g x || h x)) → list_any f xs ≡ (list_any g xs || list_any h xs)
any_or f g h [] same = refl
any_or f g h (x ∷ xs) same = grind (arith, any_or f g h xs)

-- ---- what an item enables, of all units

-- some unit is that of the command, where it is one of the session's
unit_among : (n from unit : ℕ) → from ≤ unit → unit < from + n → list_any (λ u. unit == u) (range_with_len from n) ≡ true
unit_among zero from unit low high = absurd (omega arith)
unit_among (suc n) from unit low high = grind (arith, unit_among n (from + 1) unit)

pub any_in_units : (n : ℕ) (g : Command → Bool) (cs : List Command) → list_all (λ d. nat_lt d.unit n) cs ≡ true → list_any (λ u. list_any (λ d. (d.unit == u) && g d) cs) (range_with_len 0 n) ≡ list_any g cs
any_in_units n g [] all = any-none (range_with_len 0 n)
any_in_units n g (x ∷ cs) all =
    let parts = and_parts (nat_lt x.unit n) (list_all (λ d. nat_lt d.unit n) cs) all in
    let inside : x.unit < 0 + n = below x.unit parts.0 in
    any_or (λ u. ((x.unit == u) && g x) || list_any (λ d. (d.unit == u) && g d) cs) (λ u. (x.unit == u) && g x) (λ u. list_any (λ d. (d.unit == u) && g d) cs) (range_with_len 0 n) (λ u. refl)
    ∙ ap (λ b. b || list_any (λ u. list_any (λ d. (d.unit == u) && g d) cs) (range_with_len 0 n)) (either (g x) (range_with_len 0 n) (unit_among n 0 x.unit (omega arith) inside))
    ∙ ap (λ b. g x || b) (any_in_units n g cs parts.1)
  where
    below : (u : ℕ) → nat_lt u n ≡ true → u < 0 + n
    below u test = let lt : u < n = grind arith in omega (arith, lt)

    either : (b : Bool) (us : List ℕ) → list_any (λ u. x.unit == u) us ≡ true → list_any (λ u. (x.unit == u) && b) us ≡ b
    either b us h = grind (arith, nat_tests, any_same, and_true, and_false, any-none us)

pub was_or_new : (item : List Mark) (t : Trace) (d : Command) → was_free d (item ∷ t) ≡ (was_free d t || is_new item t d)
was_or_new item t d = grind arith

-- the live commands that an item enables
pub newly_among : (o : Setting) (item : List Mark) (t : Trace) (k : ℕ) → list_all (λ d. nat_lt d.unit o.units) (live (item ∷ t)) ≡ true → is_among k (newly_enabled o t item) ≡ list_any (λ d. d.ticket == k && is_new item t d) (live (item ∷ t))
newly_among o item t k regular =
    any_flat_map (λ (d : Command). d.ticket == k) (new_in t item) (range_with_len 0 o.units)
    ∙ any_same (λ u. is_among k (new_in t item u)) (λ u. list_any (λ d. (d.unit == u) && (d.ticket == k && is_new item t d)) (live (item ∷ t))) (range_with_len 0 o.units) in_unit
    ∙ any_in_units o.units (λ d. d.ticket == k && is_new item t d) (live (item ∷ t)) regular
  where
    in_unit : (u : ℕ) → is_among k (new_in t item u) ≡ list_any (λ d. (d.unit == u) && (d.ticket == k && is_new item t d)) (live (item ∷ t))
    in_unit u =
        ap (is_among k) (filter-twice (λ d. not (was_free d t)) (λ d. was_free d (item ∷ t)) (live_in u (item ∷ t)))
        ∙ any_filter (λ (d : Command). d.ticket == k) (is_new item t) (live_in u (item ∷ t))
        ∙ any_filter (λ d. is_new item t d && (d.ticket == k)) (λ (d : Command). d.unit == u) (live (item ∷ t))
        ∙ any_same (λ d. (d.unit == u) && (is_new item t d && (d.ticket == k))) (λ d. (d.unit == u) && (d.ticket == k && is_new item t d)) (live (item ∷ t)) (λ d. ap (λ b. (d.unit == u) && b) (and_comm (is_new item t d) (d.ticket == k)))
