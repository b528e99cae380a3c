-- Each command is started at most once.
use Rattle.std.proofs.Common.{◌≡◌, ℕ, zero, suc, ◌+◌, ◌<◌, ◌≤◌, ◌==◌, ◌&&◌, ◌||◌, not, ⊎_elim, cond, Bool, true, false, List, [], ◌∷◌, ◌++◌, map, filter, length, count_by, Option, Some, None, refl, ap, sym, ◌∙◌, arith, eq-eqb, length-append}
use Rattle.std.proofs.lemmas.Grind.{common_steps}
use Rattle.std.specs.List.{list_any, filter_map, flat_map, range_with_len}
use Rattle.std.proofs.lemmas.Bool.{cases_eq}
use Rattle.std.proofs.lemmas.List.{append-nil, map-append}
use Rattle.std.proofs.lemmas.List.Elements.{filter-append}
use Rattle.std.proofs.lemmas.Bool.Decides.{nat_tests}
use Rattle.iscsi_rules.proofs.general.ListLemmas.{none_left}
use Rattle.iscsi_rules.specs.rules.Settings.{Setting}
use Rattle.iscsi_rules.specs.rules.Trace.{Command, Mark, Trace, enters, entered, live, is_among, was_free}
use Rattle.iscsi_rules.specs.rules.Run.{newly_enabled}
use Rattle.iscsi_rules.proofs.traces.DeliveryLemmas.{range_more}
use Rattle.iscsi_rules.proofs.items.Forms.{Each, HasForm, HaveForms}
use Rattle.iscsi_rules.proofs.general.ListLemmas.{filter-swap}
use Rattle.iscsi_rules.proofs.items.DeedLemmas.{to_list}
use Rattle.iscsi_rules.proofs.items.TouchLemmas.{mine, entering_in, enters_form, EntersNext, entering_next}

-- ---- lists of commands

-- no command has the ticket just where none is among them
pub mine-none : (k : ℕ) (cs : List Command) → is_among k cs ≡ false → mine k cs ≡ []
mine-none k cs h = none_left (λ (c : Command). c.ticket == k) cs h

pub among-mine : (k : ℕ) (cs : List Command) → mine k cs ≡ [] → is_among k cs ≡ false
among-mine k [] h = refl
among-mine k (c ∷ cs) h = grind (arith, among-mine k cs)

pub mine-none_counted : (k : ℕ) (cs : List Command) → count_by (λ c. c.ticket == k) cs ≤ 0 → mine k cs ≡ []
mine-none_counted k [] h = refl
mine-none_counted k (c ∷ cs) h = grind (arith, common_steps, mine-none_counted k cs)

pub count-mine : (p : Command → Bool) (k : ℕ) (cs : List Command) → count_by (λ c. c.ticket == k && p c) cs ≡ count_by p (mine k cs)
count-mine p k [] = refl
count-mine p k (c ∷ cs) = grind (arith, common_steps, count-mine p k cs)

-- ---- tickets are 1, 2, 3, ..

-- those of the commands that entered
pub tickets_count : (o : Setting) (t : Trace) (next : ℕ) → HaveForms o next t → map (λ (c : Command). c.ticket) (entered t) ≡ range_with_len 1 (length (entered t))
tickets_count o [] next x = refl
tickets_count o (item ∷ t) next x =
    let f : HasForm o x.0 t item = x.1.1.0 in
    let before : map (λ (c : Command). c.ticket) (entered t) ≡ range_with_len 1 (length (entered t)) = tickets_count o t _ x.1.1.1 in
    one_more (entering_in f.form) (ap (filter_map enters) f.is ∙ enters_form f.form) (entering_next o x.0 t f.form f.formed) before
  where
    one_more : (y : Option Command) → filter_map enters item ≡ to_list y → Each (EntersNext o t x.1.1.0.form) y → map (λ (c : Command). c.ticket) (entered t) ≡ range_with_len 1 (length (entered t))
        → map (λ (c : Command). c.ticket) (entered t ++ filter_map enters item) ≡ range_with_len 1 (length (entered t ++ filter_map enters item))
    one_more None is e before = grind (arith, append-nil)
    one_more (Some c) is e before =
        ap (λ cs. map (λ (d : Command). d.ticket) (entered t ++ cs)) is
        ∙ map-append (λ (d : Command). d.ticket) (entered t) (c ∷ [])
        ∙ ap (λ ns. ns ++ c.ticket ∷ []) before
        ∙ ap (λ n. range_with_len 1 (length (entered t)) ++ n ∷ []) (let z : c.ticket ≡ 1 + length (entered t) = omega (arith, e.next) in z)
        ∙ sym (range_more 1 (length (entered t)))
        ∙ ap (range_with_len 1) (let z : suc (length (entered t)) ≡ length (entered t) + 1 = omega arith in z ∙ sym (length-append (entered t) (c ∷ [])))
        ∙ ap (λ cs. range_with_len 1 (length (entered t ++ cs))) (sym is)

-- a ticket that is yet to come is nobody's
beyond_range : (a n k : ℕ) → a + n ≤ k → list_any (λ j. j == k) (range_with_len a n) ≡ false
beyond_range a zero k h = refl
beyond_range a (suc n) k h = ap (λ b. b || list_any (λ j. j == k) (range_with_len (a + 1) n)) (let z : (a == k) ≡ false = grind arith in z) ∙ beyond_range (a + 1) n k (omega arith)

among_tickets : (k : ℕ) (cs : List Command) → is_among k cs ≡ list_any (λ j. j == k) (map (λ (c : Command). c.ticket) cs)
among_tickets k [] = refl
among_tickets k (c ∷ cs) = ap (λ b. (c.ticket == k) || b) (among_tickets k cs)

pub beyond_entered : (o : Setting) (t : Trace) (next : ℕ) → HaveForms o next t → (k : ℕ) → length (entered t) < k → is_among k (entered t) ≡ false
beyond_entered o t next x k h = grind (arith, among_tickets, tickets_count, beyond_range)

-- ---- what an item enables

-- it is enabled at the item's end, and wasn't before
abbrev pub becomes_free : List Mark → Trace → Command → Bool
becomes_free item t c = was_free c (item ∷ t) && not (was_free c t)

-- of a unit, those that become enabled
abbrev newly_in : List Mark → Trace → List Command → ℕ → List Command
newly_in item t cs unit = filter (λ c. not (was_free c t)) (filter (λ c. was_free c (item ∷ t)) (filter (λ c. c.unit == unit) cs))

mine-newly_in : (item : List Mark) (t : Trace) (cs : List Command) (k unit : ℕ) → mine k (newly_in item t cs unit) ≡ newly_in item t (mine k cs) unit
mine-newly_in item t cs k unit = grind (arith, filter-swap)

mine-units : (item : List Mark) (t : Trace) (cs : List Command) (k : ℕ) (units : List ℕ) → mine k (flat_map (newly_in item t cs) units) ≡ flat_map (newly_in item t (mine k cs)) units
mine-units item t cs k [] = refl
mine-units item t cs k (unit ∷ units) = grind (arith, mine-units item t cs k units, filter-append, mine-newly_in)

-- where no command is there, none becomes enabled
no_units : (item : List Mark) (t : Trace) (units : List ℕ) → flat_map (newly_in item t []) units ≡ []
no_units item t [] = refl
no_units item t (unit ∷ units) = no_units item t units

other_unit : (item : List Mark) (t : Trace) (c : Command) (unit : ℕ) → (c.unit == unit) ≡ false → newly_in item t (c ∷ []) unit ≡ []
other_unit item t c unit h = ap (λ b. filter (λ d. not (was_free d t)) (filter (λ d. was_free d (item ∷ t)) (cond b (c ∷ []) []))) h

own_unit : (item : List Mark) (t : Trace) (c : Command) (unit : ℕ) → (c.unit == unit) ≡ true → newly_in item t (c ∷ []) unit ≡ cond (becomes_free item t c) (c ∷ []) []
own_unit item t c unit h = grind arith

-- one command becomes enabled in its own unit alone
one_unit_of : (item : List Mark) (t : Trace) (c : Command) (a n : ℕ) → a ≤ c.unit → c.unit < a + n → flat_map (newly_in item t (c ∷ [])) (range_with_len a n) ≡ cond (becomes_free item t c) (c ∷ []) []
one_unit_of item t c a zero low high = absurd (let z : ⊥ = omega arith in z)
one_unit_of item t c a (suc n) low high =
    ⊎_elim
    (λ same.
    ap (λ ds. ds ++ flat_map (newly_in item t (c ∷ [])) (range_with_len (a + 1) n)) (own_unit item t c a (eq-eqb c.unit a same))
    ∙ ap (λ ds. cond (becomes_free item t c) (c ∷ []) [] ++ ds) (none_after (a + 1) n (omega (arith, same)))
    ∙ append-nil (cond (becomes_free item t c) (c ∷ []) []))
    (λ apart.
    ap (λ ds. ds ++ flat_map (newly_in item t (c ∷ [])) (range_with_len (a + 1) n)) (other_unit item t c a (let z : (c.unit == a) ≡ false = grind arith in z))
    ∙ one_unit_of item t c (a + 1) n (omega (arith, apart)) (omega arith))
    (cases_eq c.unit a)
  where
    none_after : (b m : ℕ) → c.unit < b → flat_map (newly_in item t (c ∷ [])) (range_with_len b m) ≡ []
    none_after b zero low = refl
    none_after b (suc m) low = ap (λ ds. ds ++ flat_map (newly_in item t (c ∷ [])) (range_with_len (b + 1) m)) (other_unit item t c b (let z : (c.unit == b) ≡ false = grind arith in z)) ∙ none_after (b + 1) m (omega arith)

-- what becomes enabled of a ticket: nothing where it isn't live
pub newly_none : (o : Setting) (t : Trace) (item : List Mark) (k : ℕ) → mine k (live (item ∷ t)) ≡ [] → mine k (newly_enabled o t item) ≡ []
newly_none o t item k none = grind (arith, mine-units item t (live (item ∷ t)) k (range_with_len 0 o.units), no_units item t (range_with_len 0 o.units))

pub newly_one : (o : Setting) (t : Trace) (item : List Mark) (k : ℕ) (c : Command) → mine k (live (item ∷ t)) ≡ c ∷ [] → c.unit < o.units → mine k (newly_enabled o t item) ≡ cond (becomes_free item t c) (c ∷ []) []
newly_one o t item k c one below = grind (arith, nat_tests, mine-units item t (live (item ∷ t)) k (range_with_len 0 o.units), one_unit_of)
