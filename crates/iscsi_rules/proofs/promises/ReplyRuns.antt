-- In the trace of a list of events a request didn't execute so far, or is a live command, or has its reply: no two of these, and each once.
use Rattle.std.proofs.Common.{◌≡◌, ℕ, ◌+◌, ◌<◌, ◌≤◌, ◌==◌, cond, Bool, List, [], ◌∷◌, ◌++◌, length, count_by, refl, sym, subst, arith, nat_lt}
use Rattle.iscsi_wire.specs.declared.reply.Reply.{Reply}
use Rattle.iscsi_rules.specs.rules.Settings.{Setting}
use Rattle.iscsi_rules.specs.rules.Trace.{Command, Mark, Trace, entered, live}
use Rattle.iscsi_rules.specs.promises.Replies.{replies_to}
use Rattle.iscsi_rules.proofs.general.CountLemmas.{one}
use Rattle.iscsi_rules.proofs.items.Forms.{Form, Executed, marks_of_form, IsFormed, HasForm, is_arrival, HaveForms}
use Rattle.iscsi_rules.proofs.items.DeedLemmas.{to_list}
use Rattle.iscsi_rules.proofs.items.TouchLemmas.{leaving_in, entering_in}
use Rattle.iscsi_rules.proofs.promises.ReplyForms.{comes_of, answers_of, replies_form, entered_form, live_form}
use Rattle.iscsi_rules.proofs.promises.ReplyTurns.{executes_of, begins_of, awaited, awaited_form}

-- ---- an item

-- the commands that leave while a request executes
abbrev pub aborted_in : Form → List Command
aborted_in (Executed start a d) = d.leaving
aborted_in _ = []

-- what enters executes
entering_once : (o : Setting) (now v : ℕ) (t : Trace) (form : Form) → IsFormed o now t form → count_by (comes_of v) (to_list (entering_in form)) ≤ executes_of v form
entering_once o now v t form x = grind arith

-- what is answered executes, or leaves as it completes
answered_once : (o : Setting) (now v : ℕ) (t : Trace) (form : Form) → IsFormed o now t form
    → answers_of v form + count_by (comes_of v) (to_list (entering_in form)) + count_by (comes_of v) (aborted_in form) ≤ executes_of v form + count_by (comes_of v) (leaving_in form)
answered_once o now v t form x = grind arith

-- ---- the requests of an event

-- those that didn't execute so far, their live commands and their replies
abbrev pub standing : ℕ → Trace → ℕ
standing v t = length (replies_to v t) + count_by (comes_of v) (live t) + awaited v t

-- those that didn't execute so far, and their commands that ever entered a set
abbrev pub becoming : ℕ → Trace → ℕ
becoming v t = count_by (comes_of v) (entered t) + awaited v t

standing_form : (o : Setting) (now v : ℕ) (t : Trace) (form : Form) → IsFormed o now t form → standing v (marks_of_form form ∷ t) + count_by (comes_of v) (aborted_in form) ≤ standing v t + begins_of now v form
standing_form o now v t form x = omega (arith, replies_form v form t, live_form o now t form x (comes_of v), awaited_form o now v t form x, answered_once o now v t form x)

becoming_form : (o : Setting) (now v : ℕ) (t : Trace) (form : Form) → IsFormed o now t form → becoming v (marks_of_form form ∷ t) ≤ becoming v t + begins_of now v form
becoming_form o now v t form x = omega (arith, entered_form (comes_of v) form t, awaited_form o now v t form x, entering_once o now v t form x)

pub standing_item : (o : Setting) (now v : ℕ) (t : Trace) (item : List Mark) (f : HasForm o now t item) → standing v (item ∷ t) + count_by (comes_of v) (aborted_in f.form) ≤ standing v t + begins_of now v f.form
standing_item o now v t item f = subst (λ i. standing v (i ∷ t) + count_by (comes_of v) (aborted_in f.form) ≤ standing v t + begins_of now v f.form) (sym f.is) (standing_form o now v t f.form f.formed)

becoming_item : (o : Setting) (now v : ℕ) (t : Trace) (item : List Mark) (f : HasForm o now t item) → becoming v (item ∷ t) ≤ becoming v t + begins_of now v f.form
becoming_item o now v t item f = subst (λ i. becoming v (i ∷ t) ≤ becoming v t + begins_of now v f.form) (sym f.is) (becoming_form o now v t f.form f.formed)

-- ---- all items

-- no reply
pub none_left : (xs : List Reply) → length xs ≤ 0 → xs ≡ []
none_left [] h = refl
none_left (x ∷ xs) h = absurd (omega arith)

pub one_most : (b : Bool) → one b ≤ 1
one_most b = grind arith

-- at least one is below
pub is_below : (v place : ℕ) → 1 ≤ one (nat_lt v place) → v < place
is_below v place h = grind arith

-- the events before now, and this one
pub begun_by : (now v next : ℕ) (b : Bool) → now < next → one (nat_lt v (cond b now (now + 1))) + cond b (one (now == v)) 0 ≤ one (nat_lt v next)
begun_by now v next b lt = grind arith

pub standing_once : (o : Setting) (v : ℕ) (t : Trace) (next : ℕ) → HaveForms o next t → standing v t ≤ one (nat_lt v next)
standing_once o v [] next x = omega arith
standing_once o v (item ∷ t) next x =
    omega (arith, standing_item o x.0 v t item x.1.1.0, standing_once o v t _ x.1.1.1, begun_by x.0 v next (is_arrival x.1.1.0.form) x.1.0)

pub becoming_once : (o : Setting) (v : ℕ) (t : Trace) (next : ℕ) → HaveForms o next t → becoming v t ≤ one (nat_lt v next)
becoming_once o v [] next x = omega arith
becoming_once o v (item ∷ t) next x =
    omega (arith, becoming_item o x.0 v t item x.1.1.0, becoming_once o v t _ x.1.1.1, begun_by x.0 v next (is_arrival x.1.1.0.form) x.1.0)

-- ---- later items

bounded : (b : Bool) (now next : ℕ) → now < next → cond b now (now + 1) ≤ next
bounded b now next lt = grind arith

not_begun : (b : Bool) (now v place : ℕ) → place ≤ cond b now (now + 1) → v < place → cond b (one (now == v)) 0 ≤ 0
not_begun b now v place by lt = grind arith

-- what stands before later items has forms, and nothing comes to stand for an event that has been
pub record Since (o : Setting) (next : ℕ) (later t : Trace) : Type 0 where
  pub place : ℕ
  pub by : place ≤ next
  pub before : HaveForms o place t
  pub falls : (v : ℕ) → v < place → standing v (later ++ t) ≤ standing v t

pub since : (o : Setting) (later t : Trace) (next : ℕ) → HaveForms o next (later ++ t) → Since o next later t
since o [] t next x = record { place = next; by = omega arith; before = x; falls = λ v lt. omega arith }
since o (item ∷ later) t next x =
    let f : HasForm o x.0 (later ++ t) item = x.1.1.0 in
    let s : Since o (cond (is_arrival f.form) x.0 (x.0 + 1)) later t = since o later t (cond (is_arrival f.form) x.0 (x.0 + 1)) x.1.1.1 in
    record {
      place = s.place;
      by = omega (arith, s.by, bounded (is_arrival f.form) x.0 next x.1.0);
      before = s.before;
      falls = λ v lt. omega (arith, standing_item o x.0 v (later ++ t) item f, s.falls v lt, not_begun (is_arrival f.form) x.0 v s.place s.by lt);
    }
