-- What an item does to the command of a ticket: which leaves, which enters, and what is shown of it.
use Rattle.std.proofs.Common.{◌≡◌, ℕ, ◌+◌, ◌<◌, ◌≤◌, ◌==◌, ⊎_elim, cond, Bool, true, List, [], ◌∷◌, ◌++◌, map, filter, length, count_by, Option, Some, None, refl, ap, sym, ◌∙◌, arith}
use Rattle.std.specs.List.{list_any, filter_map, flat_map, cons_option}
use Rattle.std.proofs.lemmas.List.{append-nil}
use Rattle.std.proofs.lemmas.List.Elements.{filter-append}
use Rattle.std.proofs.lemmas.List.Sums.{sum_by-cons}
use Rattle.std.proofs.lemmas.Bool.Decides.{nat_tests}
use Rattle.iscsi_rules.specs.declared.effect.Effect.{Effect}
use Rattle.iscsi_rules.specs.declared.effect.Effect.TheVariants.{Enter, Enable, Leave}
use Rattle.iscsi_rules.specs.rules.Settings.{Setting}
use Rattle.iscsi_rules.specs.rules.Trace.{Command, Mark, Leaves, Enters, Trace, enters, entered, leaves_ticket, live, is_among}
use Rattle.iscsi_rules.specs.rules.Run.{effects_of_mark, newly_enabled, effects_of_item}
use Rattle.iscsi_rules.specs.promises.Lives.{life_of}
use Rattle.iscsi_rules.proofs.general.CountLemmas.{among_counted, counted_among}
use Rattle.iscsi_rules.proofs.general.ElementLemmas.{In}
use Rattle.iscsi_rules.proofs.items.Forms.{AtTurn, Form, Completed, Executed, marks_of_form, Each, IsFormed}
use Rattle.iscsi_rules.proofs.items.DeedLemmas.{to_list, views, tests}

-- the commands with this ticket
abbrev pub mine : ℕ → List Command → List Command
mine k cs = filter (λ c. c.ticket == k) cs

-- the commands that leave in an item of this form, and the one that enters
abbrev pub leaving_in : Form → List Command
leaving_in (Completed c status) = c ∷ []
leaving_in (Executed start a d) = d.leaving
leaving_in _ = []

abbrev pub entering_in : Form → Option Command
entering_in (Executed start a d) = d.entering
entering_in _ = None

abbrev pub leave_effect : Command → Effect
leave_effect c = Leave c.ticket c.unit

abbrev pub enter_effect : Command → Effect
enter_effect c = Enter c.ticket c.unit c.attr

abbrev pub enable_effect : Command → Effect
enable_effect c = Enable c.ticket c.unit

-- ---- the marks of an item

-- what enters
pub enters_form : (form : Form) → filter_map enters (marks_of_form form) ≡ to_list (entering_in form)
enters_form (Executed AtTurn a d) = simp views
enters_form (Executed start a d) = simp views
enters_form form = refl

-- which tickets leave
pub leaves_form : (k : ℕ) (form : Form) → list_any (leaves_ticket k) (marks_of_form form) ≡ is_among k (leaving_in form)
leaves_form k (Executed AtTurn a d) = simp tests
leaves_form k (Executed start a d) = simp tests
leaves_form k form = refl

-- ---- the effects that name a ticket

-- what a mark shows of the ticket
abbrev life_of_mark : ℕ → Mark → Option Effect
life_of_mark k (Leaves c) = cond (c.ticket == k) (Some (leave_effect c)) None
life_of_mark k (Enters c) = cond (c.ticket == k) (Some (enter_effect c)) None
life_of_mark k _ = None

kept_effect : (b : Bool) (e : Effect) (xs ys : List Effect) → xs ≡ ys → cond b (e ∷ xs) xs ≡ cons_option (cond b (Some e) None) ys
kept_effect b e xs ys same = grind arith

life_of_marks : (o : Setting) (t : Trace) (k : ℕ) (ms : List Mark) → life_of k (flat_map (effects_of_mark o t) ms) ≡ filter_map (life_of_mark k) ms
life_of_marks o t k [] = refl
life_of_marks o t k (Leaves c ∷ ms) = kept_effect (c.ticket == k) (leave_effect c) _ _ (life_of_marks o t k ms)
life_of_marks o t k (Enters c ∷ ms) = kept_effect (c.ticket == k) (enter_effect c) _ _ (life_of_marks o t k ms)
life_of_marks o t k (m ∷ ms) = life_of_marks o t k ms

-- the effects of those that have the ticket
shown_mine : (k : ℕ) (g : Command → Effect) (cs : List Command) → filter_map (λ c. cond (c.ticket == k) (Some (g c)) None) cs ≡ map g (mine k cs)
shown_mine k g [] = refl
shown_mine k g (c ∷ cs) = grind (arith, shown_mine k g cs)

-- what an item shows of the ticket, but for what it enables
pub life_form : (o : Setting) (t : Trace) (k : ℕ) (form : Form)
    → life_of k (flat_map (effects_of_mark o t) (marks_of_form form)) ≡ map leave_effect (mine k (leaving_in form)) ++ map enter_effect (mine k (to_list (entering_in form)))
life_form o t k form = life_of_marks o t k (marks_of_form form) ∙ by_form form
  where
    by_form : (f : Form) → filter_map (life_of_mark k) (marks_of_form f) ≡ map leave_effect (mine k (leaving_in f)) ++ map enter_effect (mine k (to_list (entering_in f)))
    by_form (Completed c status) = shown_mine k leave_effect (c ∷ []) ∙ sym (append-nil (map leave_effect (mine k (c ∷ []))))
    by_form (Executed AtTurn a d) = simp (views, shown_mine)
    by_form (Executed start a d) = simp (views, shown_mine)
    by_form form = refl

-- and what it enables
life_of_enables : (k : ℕ) (cs : List Command) → life_of k (map enable_effect cs) ≡ map enable_effect (mine k cs)
life_of_enables k [] = refl
life_of_enables k (c ∷ cs) = grind (arith, life_of_enables k cs)

-- the life of a ticket in an item
pub life_item : (o : Setting) (t : Trace) (k : ℕ) (form : Form)
    → life_of k (effects_of_item o t (marks_of_form form)) ≡ (map leave_effect (mine k (leaving_in form)) ++ map enter_effect (mine k (to_list (entering_in form)))) ++ map enable_effect (mine k (newly_enabled o t (marks_of_form form)))
life_item o t k form =
    grind (arith, nat_tests, filter-append, life_form o t k form, life_of_enables k (newly_enabled o t (marks_of_form form)))

-- ---- what holds of them

-- those that leave are live, each once
pub leaving_few : (o : Setting) (now : ℕ) (t : Trace) (form : Form) → IsFormed o now t form → (p : Command → Bool) → count_by p (leaving_in form) ≤ count_by p (live t)
leaving_few o now t (Completed c status) x p = one_of (live t) x
  where
    one_of : (cs : List Command) → In c cs → count_by p (c ∷ []) ≤ count_by p cs
    one_of [] h = absurd h
    one_of (d ∷ cs) h =
        let all : count_by p (d ∷ cs) ≡ cond (p d) 1 0 + count_by p cs = sum_by-cons (λ y. cond (p y) 1 0) d cs in
        let one : count_by p (c ∷ []) ≡ cond (p c) 1 0 + 0 = sum_by-cons (λ y. cond (p y) 1 0) c [] in
        ⊎_elim (λ same. omega (arith, all, one, ap {B = ℕ} (λ (y : Command). cond (p y) 1 0) same)) (λ later. omega (arith, all, one_of cs later)) h
leaving_few o now t (Executed start a d) x p = x.1.leaves p
leaving_few o now t form x p = omega arith

pub leaving_live : (o : Setting) (now : ℕ) (t : Trace) (form : Form) → IsFormed o now t form → (k : ℕ) → list_any (leaves_ticket k) (marks_of_form form) ≡ true → is_among k (live t) ≡ true
leaving_live o now t form x k h = counted_among k (live t) (omega (arith, among_counted k (leaving_in form) (sym (leaves_form k form) ∙ h), leaving_few o now t form x (λ (c : Command). c.ticket == k)))

-- the one that enters has the next ticket, and a unit of the session, and none leaves then
pub record EntersNext (o : Setting) (t : Trace) (form : Form) (c : Command) : Type 0 where
  pub next : c.ticket ≡ length (entered t) + 1
  pub below : c.unit < o.units
  pub stays : leaving_in form ≡ []

pub entering_next : (o : Setting) (now : ℕ) (t : Trace) (form : Form) → IsFormed o now t form → Each (EntersNext o t form) (entering_in form)
entering_next o now t form x = grind arith
