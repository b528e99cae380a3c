-- Turns: which numbers an item delivers and empties. What is emptied is never delivered.
use Rattle.std.proofs.Common.{arith, ◌≡◌, ℕ, ◌==◌, ◌||◌, inl, inr, ⊎_elim, Bool, true, false, List, [], ◌∷◌, Some, refl, ap, sym, ◌∙◌}
use Rattle.std.specs.List.{list_any}
use Rattle.std.proofs.lemmas.Bool.{false≢true, eqb-true, or_cases}
use Rattle.std.proofs.lemmas.Bool.Decides.{nat_tests}
use Rattle.iscsi_rules.specs.rules.Settings.{Setting}
use Rattle.iscsi_rules.specs.rules.Trace.{Arrival, Trace, delivers_number, is_delivered, empties_number, is_emptied, held}
use Rattle.iscsi_rules.specs.promises.Replies.{executed_in}
use Rattle.iscsi_rules.proofs.general.BoolLemmas.{or_false}
use Rattle.iscsi_rules.proofs.general.ElementLemmas.{In}
use Rattle.iscsi_rules.proofs.traces.FateLemmas.{done_at}
use Rattle.iscsi_rules.proofs.items.Forms.{Start, AtTurn, start_mark, marks_done, Form, Executed, marks_of_form, begun, IsFormed, HasForm, HaveForms}

-- ---- an item

-- it delivers the request whose turn it is
abbrev pub delivers_in : ℕ → Form → Bool
delivers_in n (Executed AtTurn a d) = a.number == n
delivers_in n _ = false

pub delivers_form : (n : ℕ) (form : Form) → list_any (delivers_number n) (marks_of_form form) ≡ delivers_in n form
delivers_form n (Executed AtTurn a d) = ap (λ b. (a.number == n) || b) (done_at n a d).delivered ∙ or_false (a.number == n)
delivers_form n (Executed start a d) = (done_at n a d).delivered
delivers_form n form = refl

-- what is held isn't delivered
held_undelivered : (t : Trace) (n : ℕ) (a : Arrival) → held t n ≡ Some a → is_delivered t n ≡ false
held_undelivered t n a h = grind arith

-- a number at which a request is taken out
some_emptied : (t : Trace) (n : ℕ) (bs : List Arrival) → ((b : Arrival) → In b bs → is_delivered t b.number ≡ false) → list_any (λ b. b.number == n) bs ≡ true → is_delivered t n ≡ false
some_emptied t n [] h found = absurd (false≢true found)
some_emptied t n (b ∷ bs) h found =
    ⊎_elim
    (λ here. ap (is_delivered t) (sym (eqb-true b.number n here)) ∙ h b (inl refl))
    (λ later. some_emptied t n bs (λ d there. h d (inr there)) later)
    (or_cases (b.number == n) (list_any (λ (d : Arrival). d.number == n) bs) found)

-- nothing is delivered at a number that the item empties
emptied_form : (o : Setting) (now n : ℕ) (t : Trace) (form : Form) → IsFormed o now t form → list_any (empties_number n) (marks_of_form form) ≡ true → is_delivered (marks_of_form form ∷ t) n ≡ false
emptied_form o now n t (Executed start a d) x h =
    ap (λ b. (delivers_number n (start_mark start a) || b) || is_delivered t n) (done_at n a d).delivered
    ∙ some_emptied (begun start a t) n d.emptied (λ b there. held_undelivered (begun start a t) b.number b (x.1.empties b there)) (sym (done_at n a d).emptied ∙ by_start start h)
  where
    by_start : (s : Start) → list_any (empties_number n) (start_mark s a ∷ marks_done a d) ≡ true → list_any (empties_number n) (marks_done a d) ≡ true
    by_start s h = grind (arith, nat_tests)
emptied_form o now n t form x h = absurd (false≢true h)

-- nothing is delivered at a number that was emptied
unturned_form : (o : Setting) (now n : ℕ) (t : Trace) (form : Form) → IsFormed o now t form → is_emptied t n ≡ true → delivers_in n form ≡ false
unturned_form o now n t form x gone = grind arith

-- a request that executes delivers no number but its own
pub delivers_own : (n : ℕ) (form : Form) (f : Arrival) → executed_in (marks_of_form form) ≡ Some f → (f.number == n) ≡ false → delivers_in n form ≡ false
delivers_own n form f is apart = grind arith

-- ---- all items

-- what was emptied isn't delivered
pub emptied_undelivered : (o : Setting) (n : ℕ) (t : Trace) (next : ℕ) → HaveForms o next t → is_emptied t n ≡ true → is_delivered t n ≡ false
emptied_undelivered o n [] next x h = refl
emptied_undelivered o n (item ∷ t) next x h =
    let f : HasForm o x.0 t item = x.1.1.0 in
    ⊎_elim
    (λ here. ap (λ i. is_delivered (i ∷ t) n) f.is ∙ emptied_form o x.0 n t f.form f.formed (ap (list_any (empties_number n)) (sym f.is) ∙ here))
    (λ before.
    ap (λ b. b || is_delivered t n) (ap (list_any (delivers_number n)) f.is ∙ delivers_form n f.form ∙ unturned_form o x.0 n t f.form f.formed before)
    ∙ emptied_undelivered o n t _ x.1.1.1 before)
    (or_cases (list_any (empties_number n) item) (is_emptied t n) h)
