-- What is enabled and live after an item, and the commands that were shown as enabled.
use Rattle.std.proofs.Common.{Bool, List, false, refl, true, ◌||◌, ◌∷◌, ◌≡◌, ◌+◌, ◌++◌, ◌<◌, ◌==◌, [], ap, arith, suc, zero, ℕ, ◌∙◌, ◌≤◌, ◌&&◌, not, filter, sym, nat_lt}
use Rattle.std.specs.List.{flat_map, range_with_len, list_any, list_all}
use Rattle.std.proofs.lemmas.List.{append-nil}
use Rattle.std.proofs.lemmas.List.Folds.{list_any-append}
use Rattle.std.proofs.lemmas.Bool.Decides.{nat_tests}
use Rattle.iscsi_rules.specs.rules.Trace.{Command, Mark, Trace, was_free, live_in, leaves_ticket, has, is_among, live}
use Rattle.iscsi_rules.specs.rules.Settings.{Setting}
use Rattle.iscsi_rules.specs.rules.Run.{newly_enabled, effects_of_mark, effects_of_item}
use Rattle.iscsi_rules.specs.promises.Enabling.{is_leave, effects_so_far, is_enable, is_shown_enabled, is_enabled, EnabledSoFar}
use Rattle.iscsi_rules.proofs.traces.NewlyLemmas.{flat_map-none, new_in, new_in-none, is_here, was_free-stays, Untouched, live-untouched, live_in-untouched, newly-untouched, any_or, is_new, newly_among, was_or_new}
use Rattle.iscsi_rules.proofs.promises.MomentLemmas.{enables, enables_none, shown_so_far, item_enables, left_unlive}
use Rattle.iscsi_rules.proofs.general.BoolLemmas.{or_false, or_second, and_false}
use Rattle.iscsi_rules.proofs.traces.TraceLemmas.{weaker}
use Rattle.iscsi_rules.proofs.general.ListLemmas.{any_all}
use Rattle.iscsi_rules.proofs.items.CommandItems.{LeavesSome, live-left, none_any}

pub was_before : (c : Command) (item : List Mark) (t : Trace) → (was_free c t || was_free c (item ∷ t)) ≡ was_free c (item ∷ t)
was_before c item t = grind arith

flat_map-one : {A : Type 0} (f : ℕ → List A) (from n k : ℕ) → from ≤ k → k < from + n → ((j : ℕ) → (j == k) ≡ false → f j ≡ []) → flat_map f (range_with_len from n) ≡ f k
flat_map-one f from zero k low high none = absurd (omega arith)
flat_map-one f from (suc n) k low high none = grind (arith, flat_map-one f (from + 1) n k, flat_map-none, append-nil)

-- one that touches a single unit enables commands of that one
pub newly-one : (o : Setting) (item : List Mark) (t : Trace) (unit : ℕ) → unit < o.units → ((other : ℕ) → (other == unit) ≡ false → live_in other (item ∷ t) ≡ live_in other t) → newly_enabled o t item ≡ new_in t item unit
newly-one o item t unit inside same = flat_map-one (new_in t item) 0 o.units unit (omega arith) (omega arith) (λ other apart. new_in-none item t other (same other apart))

-- ---- what the effects show

-- the commands that left, by the effects, are those of the marks
left_so_far : (o : Setting) (t : Trace) (k : ℕ) → list_any (is_leave k) (effects_so_far o t) ≡ has (leaves_ticket k) t
left_so_far o t k = shown_so_far o (is_leave k) (leaves_ticket k) (λ ticket unit. refl) left_mark t
  where
    left_mark : (t : Trace) (m : Mark) → list_any (is_leave k) (effects_of_mark o t m) ≡ leaves_ticket k m
    left_mark t m = grind arith

no_leave : (k : ℕ) (cs : List Command) → list_any (is_leave k) (enables cs) ≡ false
no_leave k cs = enables_none (is_leave k) (λ ticket unit. refl) cs

abbrev pub enabled_once : Setting → Trace → ℕ → Bool
enabled_once o t k = list_any (is_enable k) (effects_so_far o t)

-- what is shown after an item, by what was shown before
pub shown-item : (o : Setting) (t : Trace) (item : List Mark) (k : ℕ) → is_shown_enabled k (effects_so_far o (item ∷ t)) ≡ ((enabled_once o t k || is_among k (newly_enabled o t item)) && not (list_any (leaves_ticket k) item || has (leaves_ticket k) t))
shown-item o t item k =
    grind (arith, left_so_far o (item ∷ t) k, list_any-append (is_enable k) (effects_so_far o t) (effects_of_item o t item), item_enables o t item k)

pub shown-before : (o : Setting) (t : Trace) (k : ℕ) → is_shown_enabled k (effects_so_far o t) ≡ (enabled_once o t k && not (has (leaves_ticket k) t))
shown-before o t k = ap (λ b. enabled_once o t k && not b) (left_so_far o t k)

-- ---- the live commands

-- each is among those of its unit
all_in_unit : (cs : List Command) → list_all (λ (c : Command). is_here c.unit (filter (λ (d : Command). d.unit == c.unit) cs) c) cs ≡ true
all_in_unit [] = refl
all_in_unit (x ∷ cs) = grind (arith, all_in_unit cs, weaker)

-- ---- an item that nothing enters or leaves by

abbrev pub Exact : Setting → Trace → Type 0
Exact o t = (k : ℕ) → is_shown_enabled k (effects_so_far o t) ≡ is_enabled k t

pub same_enabled : (item : List Mark) (t : Trace) (k : ℕ) (more : ℕ → List Command) → ((unit : ℕ) → live_in unit (item ∷ t) ≡ live_in unit t ++ more unit)
    → list_any (λ c. c.ticket == k && was_free c (item ∷ t)) (live t) ≡ is_enabled k t
same_enabled item t k more now = grind (arith, nat_tests, any_all, is_here, all_in_unit (live t), was_free-stays)

exact-untouched : (o : Setting) (item : List Mark) (t : Trace) → Untouched item → Exact o t → Exact o (item ∷ t)
exact-untouched o item t u x k =
    shown-item o t item k
    ∙ ap (λ cs. (enabled_once o t k || is_among k cs) && not (list_any (leaves_ticket k) item || has (leaves_ticket k) t)) (newly-untouched o t item u)
    ∙ ap (λ b. (enabled_once o t k || false) && not (b || has (leaves_ticket k) t)) (u.leaves_no k)
    ∙ ap (λ b. b && not (has (leaves_ticket k) t)) (or_false (enabled_once o t k))
    ∙ sym (shown-before o t k) ∙ x k
    ∙ sym (same_enabled item t k (λ unit. []) (λ unit. live_in-untouched item t u unit ∙ sym (append-nil (live_in unit t))))
    ∙ ap (list_any (λ c. c.ticket == k && was_free c (item ∷ t))) (sym (live-untouched item t u))

-- ---- commands leave

-- those with other tickets don't matter
any_without : (w : Command → Bool) (out : ℕ → Bool) (k : ℕ) (cs : List Command) → out k ≡ false → list_any (λ d. d.ticket == k && w d) (filter (λ d. not (out d.ticket)) cs) ≡ list_any (λ d. d.ticket == k && w d) cs
any_without w out k [] stays = refl
any_without w out k (x ∷ cs) stays = grind (arith, any_without w out k cs)

-- those with the ticket are gone
none_gone : (out : ℕ → Bool) (k : ℕ) (cs : List Command) → out k ≡ true → is_among k (filter (λ d. not (out d.ticket)) cs) ≡ false
none_gone out k [] goes = refl
none_gone out k (x ∷ cs) goes = grind (arith, none_gone out k cs)

exact-left : (o : Setting) (item : List Mark) (t : Trace) (out : ℕ → Bool) → LeavesSome item out → list_all (λ d. nat_lt d.unit o.units) (live (item ∷ t)) ≡ true → Exact o t → Exact o (item ∷ t)
exact-left o item t out l regular x k =
    shown-item o t item k
    ∙ ap (λ b. (enabled_once o t k || is_among k (newly_enabled o t item)) && not (b || has (leaves_ticket k) t)) (l.some k)
    ∙ by_ticket (out k) refl
    ∙ ap (list_any (λ d. d.ticket == k && was_free d (item ∷ t))) (sym (live-left item t out l))
  where
    rest : List Command
    rest = filter (λ d. not (out d.ticket)) (live t)

    newly_is : is_among k (newly_enabled o t item) ≡ list_any (λ d. d.ticket == k && is_new item t d) (live (item ∷ t))
    newly_is = newly_among o item t k regular

    bools : (was new left : Bool) → (left ≡ true → new ≡ false) → ((was || new) && not left) ≡ ((was && not left) || new)
    bools was new left h = grind arith

    -- nothing that left before is new now
    unnew : has (leaves_ticket k) t ≡ true → is_among k (newly_enabled o t item) ≡ false
    unnew left = newly_is ∙ none_any (is_new item t) k (live (item ∷ t)) (left_unlive (item ∷ t) k (or_second (list_any (leaves_ticket k) item) (has (leaves_ticket k) t) left))

    by_ticket : (b : Bool) → out k ≡ b → ((enabled_once o t k || is_among k (newly_enabled o t item)) && not (b || has (leaves_ticket k) t)) ≡ list_any (λ d. d.ticket == k && was_free d (item ∷ t)) rest
    by_ticket true is =
        cc (and_false (enabled_once o t k || is_among k (newly_enabled o t item)), none_any (λ d. was_free d (item ∷ t)) k rest (none_gone out k (live t) is))
    by_ticket false is =
        bools (enabled_once o t k) (is_among k (newly_enabled o t item)) (has (leaves_ticket k) t) unnew
        ∙ ap (λ b. b || is_among k (newly_enabled o t item)) (sym (shown-before o t k) ∙ x k ∙ sym (any_without (λ d. was_free d t) out k (live t) is))
        ∙ ap (λ b. list_any (λ d. d.ticket == k && was_free d t) rest || b) (newly_is ∙ ap (list_any (λ d. d.ticket == k && is_new item t d)) (live-left item t out l))
        ∙ sym (any_or (λ d. d.ticket == k && was_free d (item ∷ t)) (λ d. d.ticket == k && was_free d t) (λ d. d.ticket == k && is_new item t d) rest (λ d. ap (λ b. d.ticket == k && b) (was_or_new item t d) ∙ spread (d.ticket == k) (was_free d t) (is_new item t d)))
      where
        spread : (u v w : Bool) → (u && (v || w)) ≡ ((u && v) || (u && w))
        spread u v w = grind (arith, nat_tests)

-- ---- each moment

pub EnabledSoFar-more : (o : Setting) (item : List Mark) (t : Trace) → EnabledSoFar o t → Exact o (item ∷ t) → EnabledSoFar o (item ∷ t)
EnabledSoFar-more o item t before now [] moment split ticket = ap (λ u. is_shown_enabled ticket (effects_so_far o u)) split ∙ now ticket ∙ ap (is_enabled ticket) (sym split)
EnabledSoFar-more o item t before now (i ∷ later) moment split ticket = before later moment (let rest : later ++ moment ≡ t = cc in rest) ticket

pub exact_now : (o : Setting) (t : Trace) → EnabledSoFar o t → Exact o t
exact_now o t x = x [] t refl

pub EnabledSoFar-none : (o : Setting) → EnabledSoFar o []
EnabledSoFar-none o [] moment split ticket = ap (λ u. is_shown_enabled ticket (effects_so_far o u)) split ∙ sym (ap (is_enabled ticket) split)
EnabledSoFar-none o (i ∷ later) moment split ticket = absurd cc

pub EnabledSoFar-untouched : (o : Setting) (item : List Mark) (t : Trace) → Untouched item → EnabledSoFar o t → EnabledSoFar o (item ∷ t)
EnabledSoFar-untouched o item t u x = EnabledSoFar-more o item t x (exact-untouched o item t u (exact_now o t x))

pub EnabledSoFar-left : (o : Setting) (item : List Mark) (t : Trace) (out : ℕ → Bool) → LeavesSome item out → list_all (λ d. nat_lt d.unit o.units) (live (item ∷ t)) ≡ true → EnabledSoFar o t → EnabledSoFar o (item ∷ t)
EnabledSoFar-left o item t out l regular x = EnabledSoFar-more o item t x (exact-left o item t out l regular (exact_now o t x))
