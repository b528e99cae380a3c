-- The commands that the effects show as enabled are those that the rule enables, at each moment.
use Rattle.std.proofs.Common.{arith, ◌≡◌, ℕ, ◌<◌, ◌==◌, ◌&&◌, ◌||◌, not, Bool, true, false, List, [], ◌∷◌, filter, length, Option, Some, None, refl, ap, sym, subst, ◌∙◌, nat_lt}
use Rattle.std.specs.List.{list_all, list_any, filter_map}
use Rattle.std.proofs.lemmas.Bool.Decides.{nat_tests}
use Rattle.std.proofs.lemmas.List.Folds.{list_any-append, list_all-append}
use Rattle.iscsi_rules.specs.rules.Settings.{Setting}
use Rattle.iscsi_rules.specs.rules.Trace.{Command, Mark, Trace, has, enters, entered, leaves_ticket, live, is_among, was_free}
use Rattle.iscsi_rules.specs.rules.Run.{newly_enabled}
use Rattle.iscsi_rules.specs.promises.Enabling.{effects_so_far, is_shown_enabled, is_enabled, EnabledSoFar}
use Rattle.iscsi_rules.proofs.general.BoolLemmas.{or_none, or_false, and_false}
use Rattle.iscsi_rules.proofs.general.ListLemmas.{list_all-filter}
use Rattle.iscsi_rules.proofs.traces.NewlyLemmas.{never_free, any_or, is_new, newly_among, was_or_new}
use Rattle.iscsi_rules.proofs.traces.TraceLemmas.{live-item}
use Rattle.iscsi_rules.proofs.items.CommandItems.{none_any}
use Rattle.iscsi_rules.proofs.items.DeedLemmas.{to_list}
use Rattle.iscsi_rules.proofs.items.EnabledItems.{EnabledSoFar-more, EnabledSoFar-none, Exact, enabled_once, exact_now, shown-before, shown-item}
use Rattle.iscsi_rules.proofs.items.Forms.{Form, marks_of_form, Each, IsFormed, HasForm, HaveForms}
use Rattle.iscsi_rules.proofs.items.TouchLemmas.{entering_in, enters_form, EntersNext, entering_next}
use Rattle.iscsi_rules.proofs.promises.LifeLemmas.{beyond_entered}
use Rattle.iscsi_rules.proofs.promises.MomentLemmas.{left_unlive}

-- ---- the units of what entered

entering_regular : (o : Setting) (t : Trace) (form : Form) (x : Option Command) → Each (EntersNext o t form) x → list_all (λ c. nat_lt c.unit o.units) (to_list x) ≡ true
entering_regular o t form None e = refl
entering_regular o t form (Some c) e = let below : c.unit < o.units = e.below in grind (arith, nat_tests)

entered_regular : (o : Setting) (t : Trace) (next : ℕ) → HaveForms o next t → list_all (λ c. nat_lt c.unit o.units) (entered t) ≡ true
entered_regular o [] next x = refl
entered_regular o (item ∷ t) next x =
    let f : HasForm o x.0 t item = x.1.1.0 in
    let now : filter_map enters item ≡ to_list (entering_in f.form) = ap (filter_map enters) f.is ∙ enters_form f.form in
    list_all-append (λ (c : Command). nat_lt c.unit o.units) (entered t) (filter_map enters item)
    ∙ ap (λ b. b && list_all (λ (c : Command). nat_lt c.unit o.units) (filter_map enters item)) (entered_regular o t _ x.1.1.1)
    ∙ ap (list_all (λ (c : Command). nat_lt c.unit o.units)) now
    ∙ entering_regular o t f.form (entering_in f.form) (entering_next o x.0 t f.form f.formed)

-- ---- one item more

-- those with other tickets don't matter
any_without : (w : Command → Bool) (out : ℕ → Bool) (k : ℕ) (cs : List Command) → out k ≡ false → list_any (λ d. d.ticket == k && w d) (filter (λ d. not (out d.ticket)) cs) ≡ list_any (λ d. d.ticket == k && w d) cs
any_without w out k [] stays = refl
any_without w out k (x ∷ cs) stays = grind (arith, any_without w out k cs)

module _ (o : Setting) (now : ℕ) (t : Trace) (next : ℕ) (x : HaveForms o next t) (form : Form) (formed : IsFormed o now t form) (k : ℕ) where
  abbrev item : List Mark
  item = marks_of_form form

  abbrev lives : List Command
  lives = live (item ∷ t)

  abbrev before : Command → Bool
  before d = d.ticket == k && was_free d t

  -- what enters wasn't free before
  none_before : (p : Command → Bool) → list_any before (filter p (filter_map enters item)) ≡ false
  none_before p = ap (λ cs. list_any before (filter p cs)) (enters_form form) ∙ by_entering (entering_in form) (entering_next o now t form formed)
    where
      by_entering : (y : Option Command) → Each (EntersNext o t form) y → list_any before (filter p (to_list y)) ≡ false
      by_entering None e = refl
      by_entering (Some c) e =
          let new : was_free c t ≡ false = never_free c t (beyond_entered o t next x c.ticket (let z : length (entered t) < c.ticket = omega (arith, e.next) in z)) in
          grind (arith, and_false (c.ticket == k))

  before_stays : list_any (leaves_ticket k) item ≡ false → list_any before lives ≡ list_any before (live t)
  before_stays stays =
      ap (list_any before) (live-item item t)
      ∙ list_any-append before (filter (λ c. not (list_any (leaves_ticket c.ticket) item)) (live t)) (filter (λ c. not (has (leaves_ticket c.ticket) (item ∷ t))) (filter_map enters item))
      ∙ ap (λ b. list_any before (filter (λ c. not (list_any (leaves_ticket c.ticket) item)) (live t)) || b) (none_before (λ c. not (has (leaves_ticket c.ticket) (item ∷ t))))
      ∙ or_false (list_any before (filter (λ c. not (list_any (leaves_ticket c.ticket) item)) (live t)))
      ∙ any_without (λ d. was_free d t) (λ j. list_any (leaves_ticket j) item) k (live t) stays

  newly_is : list_all (λ d. nat_lt d.unit o.units) lives ≡ true → is_among k (newly_enabled o t item) ≡ list_any (λ d. d.ticket == k && is_new item t d) lives
  newly_is regular = newly_among o item t k regular

  exact_item : list_all (λ d. nat_lt d.unit o.units) lives ≡ true → Exact o t → is_shown_enabled k (effects_so_far o (item ∷ t)) ≡ is_enabled k (item ∷ t)
  exact_item regular e = shown-item o t item k ∙ by_left (has (leaves_ticket k) (item ∷ t)) refl
    where
      spread : (u v w : Bool) → (u && (v || w)) ≡ ((u && v) || (u && w))
      spread u v w = grind (arith, nat_tests)

      bools : (once new left : Bool) → left ≡ false → (once || new) ≡ ((once && not left) || new)
      bools once new left h = grind arith

      by_left : (b : Bool) → has (leaves_ticket k) (item ∷ t) ≡ b → ((enabled_once o t k || is_among k (newly_enabled o t item)) && not (list_any (leaves_ticket k) item || has (leaves_ticket k) t)) ≡ is_enabled k (item ∷ t)
      by_left true left =
          ap (λ b. (enabled_once o t k || is_among k (newly_enabled o t item)) && not b) left
          ∙ and_false (enabled_once o t k || is_among k (newly_enabled o t item))
          ∙ sym (none_any (λ d. was_free d (item ∷ t)) k lives (left_unlive (item ∷ t) k left))
      by_left false left =
          let both = or_none (list_any (leaves_ticket k) item) (has (leaves_ticket k) t) left in
          ap (λ b. (enabled_once o t k || is_among k (newly_enabled o t item)) && not b) left
          ∙ and_one (enabled_once o t k || is_among k (newly_enabled o t item))
          ∙ bools (enabled_once o t k) (is_among k (newly_enabled o t item)) (has (leaves_ticket k) t) both.1
          ∙ ap (λ b. b || is_among k (newly_enabled o t item)) (sym (shown-before o t k) ∙ e k ∙ sym (before_stays both.0))
          ∙ ap (λ b. list_any before lives || b) (newly_is regular)
          ∙ sym (any_or (λ d. d.ticket == k && was_free d (item ∷ t)) before (λ d. d.ticket == k && is_new item t d) lives (λ d. ap (λ b. d.ticket == k && b) (was_or_new item t d) ∙ spread (d.ticket == k) (was_free d t) (is_new item t d)))
        where
          and_one : (b : Bool) → (b && true) ≡ b
          and_one b = grind arith

-- ---- each moment

pub enabled_so_far : (o : Setting) (t : Trace) (next : ℕ) → HaveForms o next t → EnabledSoFar o t
enabled_so_far o [] next x = EnabledSoFar-none o
enabled_so_far o (item ∷ t) next x =
    let f : HasForm o x.0 t item = x.1.1.0 in
    let before : EnabledSoFar o t = enabled_so_far o t _ x.1.1.1 in
    let regular : list_all (λ d. nat_lt d.unit o.units) (live (item ∷ t)) ≡ true = list_all-filter (λ (c : Command). not (has (leaves_ticket c.ticket) (item ∷ t))) (λ c. nat_lt c.unit o.units) (entered (item ∷ t)) (entered_regular o (item ∷ t) next x) in
    let now : Exact o (item ∷ t) = λ k.
    subst (λ (i : List Mark). list_all (λ d. nat_lt d.unit o.units) (live (i ∷ t)) ≡ true → is_shown_enabled k (effects_so_far o (i ∷ t)) ≡ is_enabled k (i ∷ t)) (sym f.is)
    (λ all. exact_item o x.0 t _ x.1.1.1 f.form f.formed k all (exact_now o t before)) regular in
    EnabledSoFar-more o item t before now
