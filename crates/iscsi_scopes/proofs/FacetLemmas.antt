-- What the line of each key has, where a slot comes to the line of one, or leaves it: for the crates above.
use Rattle.std.proofs.Common.{◌≡◌, ◌≢◌, ℕ, ◌<◌, ◌≤◌, ◌==◌, cond, List, [], ◌∷◌, ◌++◌, refl, ap, sym, ◌∙◌, arith, ⊎_elim, eq-eqb, ne_eqb, false, Bool}
use Rattle.std.proofs.lemmas.Bool.{cases_eq, cases_lt, lt-ltb, le-ltb}
use Rattle.iscsi_slots.specs.Slots.{times}
use Rattle.iscsi_lists.specs.Lists.{without}
use Rattle.iscsi_tags.specs.declared.tag_line.TagLine.{TagLine}
use Rattle.iscsi_lines.specs.Lines.{Lined}
use Rattle.iscsi_scopes.specs.Scopes.{AllKeysAbove, AreKeysAscending, Keyed, entered, keyed, left, shown, slots_of, times_over, unless_empty}
use Rattle.iscsi_scopes.proofs.KeyLemmas.{AllAbove, Ascend}

read_first : (key : ℕ) (k : Keyed) (ks : List Keyed) → k.key ≡ key → slots_of key (k ∷ ks) ≡ k.slots
read_first key k ks same = ap (λ b. cond b k.slots (slots_of key ks)) (eq-eqb k.key key same)

read_later : (key : ℕ) (k : Keyed) (ks : List Keyed) → k.key ≢ key → slots_of key (k ∷ ks) ≡ slots_of key ks
read_later key k ks other = ap (λ b. cond b k.slots (slots_of key ks)) (ne_eqb k.key key other)

-- a key that is no greater than one before all others has no line
read_below : (key : ℕ) (ks : List Keyed) (n : ℕ) → key ≤ n → AllKeysAbove n ks → slots_of key ks ≡ []
read_below key [] n low above = refl
read_below key (k ∷ ks) n low above =
    let a = above.0 in read_later key k ks (λ e. omega (arith, e, a, low)) ∙ read_below key ks n low above.1

-- ---- a slot comes

module _ (key slot : ℕ) where
  abbrev comes : Keyed → List Keyed → Bool → Bool → List Keyed
  comes k ks low here = cond low (keyed key (slot ∷ []) ∷ k ∷ ks) (cond here (keyed k.key (k.slots ++ slot ∷ []) ∷ ks) (k ∷ entered key slot ks))

  comes_low : (k : Keyed) (ks : List Keyed) → key < k.key → entered key slot (k ∷ ks) ≡ keyed key (slot ∷ []) ∷ k ∷ ks
  comes_low k ks low = ap (λ b. comes k ks b (k.key == key)) (lt-ltb key k.key low)

  comes_here : (k : Keyed) (ks : List Keyed) → k.key ≡ key → entered key slot (k ∷ ks) ≡ keyed k.key (k.slots ++ slot ∷ []) ∷ ks
  comes_here k ks same = ap (λ b. comes k ks b (k.key == key)) (le-ltb key k.key (omega (arith, same))) ∙ ap (comes k ks false) (eq-eqb k.key key same)

  comes_past : (k : Keyed) (ks : List Keyed) → k.key < key → entered key slot (k ∷ ks) ≡ k ∷ entered key slot ks
  comes_past k ks past = ap (λ b. comes k ks b (k.key == key)) (le-ltb key k.key (omega (arith, past))) ∙ ap (comes k ks false) (ne_eqb k.key key (λ e. omega (arith, e, past)))

  pub entered_here : (ks : List Keyed) → AreKeysAscending ks → slots_of key (entered key slot ks) ≡ slots_of key ks ++ slot ∷ []
  entered_here [] up = read_first key (keyed key (slot ∷ [])) [] refl
  entered_here (k ∷ ks) up = ⊎_elim
      (λ low.
      ap (slots_of key) (comes_low k ks low) ∙ read_first key (keyed key (slot ∷ [])) (k ∷ ks) refl
      ∙ sym (ap (λ r. r ++ slot ∷ []) (read_later key k ks (λ e. omega (arith, e, low)) ∙ read_below key ks k.key (omega (arith, low)) up.0)))
      (λ high. ⊎_elim
      (λ (same : k.key ≡ key).
      ap (slots_of key) (comes_here k ks same) ∙ read_first key (keyed k.key (k.slots ++ slot ∷ [])) ks same
      ∙ sym (ap (λ r. r ++ slot ∷ []) (read_first key k ks same)))
      (λ other.
      ap (slots_of key) (comes_past k ks (omega (arith, high, other))) ∙ read_later key k (entered key slot ks) other
      ∙ entered_here ks up.1 ∙ sym (ap (λ r. r ++ slot ∷ []) (read_later key k ks other)))
      (cases_eq k.key key))
      (cases_lt key k.key)

  pub entered_other : (ks : List Keyed) (x : ℕ) → x ≢ key → slots_of x (entered key slot ks) ≡ slots_of x ks
  entered_other [] x away = read_later x (keyed key (slot ∷ [])) [] (λ e. away (sym e))
  entered_other (k ∷ ks) x away = ⊎_elim
      (λ low. ap (slots_of x) (comes_low k ks low) ∙ read_later x (keyed key (slot ∷ [])) (k ∷ ks) (λ e. away (sym e)))
      (λ high. ⊎_elim
      (λ (same : k.key ≡ key).
      ap (slots_of x) (comes_here k ks same) ∙ read_later x (keyed k.key (k.slots ++ slot ∷ [])) ks (λ e. away (sym e ∙ same))
      ∙ sym (read_later x k ks (λ e. away (sym e ∙ same))))
      (λ other.
      ap (slots_of x) (comes_past k ks (omega (arith, high, other)))
      ∙ ap (λ r. cond (k.key == x) k.slots r) (entered_other ks x away))
      (cases_eq k.key key))
      (cases_lt key k.key)

  -- ---- a slot leaves

  abbrev goes : Keyed → List Keyed → Bool → List Keyed
  goes k ks here = cond here (unless_empty k.key (without slot k.slots) ks) (k ∷ left key slot ks)

  goes_here : (k : Keyed) (ks : List Keyed) → k.key ≡ key → left key slot (k ∷ ks) ≡ unless_empty k.key (without slot k.slots) ks
  goes_here k ks same = ap (goes k ks) (eq-eqb k.key key same)

  goes_later : (k : Keyed) (ks : List Keyed) → k.key ≢ key → left key slot (k ∷ ks) ≡ k ∷ left key slot ks
  goes_later k ks other = ap (goes k ks) (ne_eqb k.key key other)

  unless_here : (n : ℕ) (xs : List ℕ) (ks : List Keyed) → n ≡ key → AllKeysAbove n ks → slots_of key (unless_empty n xs ks) ≡ xs
  unless_here n [] ks same above = read_below key ks n (omega (arith, same)) above
  unless_here n (x ∷ xs) ks same above = read_first key (keyed n (x ∷ xs)) ks same

  unless_other : (n : ℕ) (xs : List ℕ) (ks : List Keyed) (x : ℕ) → n ≢ x → slots_of x (unless_empty n xs ks) ≡ slots_of x ks
  unless_other n [] ks x away = refl
  unless_other n (y ∷ ys) ks x away = read_later x (keyed n (y ∷ ys)) ks away

  pub left_here : (ks : List Keyed) → AreKeysAscending ks → slots_of key (left key slot ks) ≡ without slot (slots_of key ks)
  left_here [] up = refl
  left_here (k ∷ ks) up = ⊎_elim
      (λ (same : k.key ≡ key).
      ap (slots_of key) (goes_here k ks same) ∙ unless_here k.key (without slot k.slots) ks same up.0
      ∙ ap (without slot) (sym (read_first key k ks same)))
      (λ other.
      ap (slots_of key) (goes_later k ks other) ∙ read_later key k (left key slot ks) other
      ∙ left_here ks up.1 ∙ ap (without slot) (sym (read_later key k ks other)))
      (cases_eq k.key key)

  pub left_other : (ks : List Keyed) (x : ℕ) → x ≢ key → slots_of x (left key slot ks) ≡ slots_of x ks
  left_other [] x away = refl
  left_other (k ∷ ks) x away = ⊎_elim
      (λ (same : k.key ≡ key).
      ap (slots_of x) (goes_here k ks same) ∙ unless_other k.key (without slot k.slots) ks x (λ e. away (sym e ∙ same))
      ∙ sym (read_later x k ks (λ e. away (sym e ∙ same))))
      (λ other.
      ap (slots_of x) (goes_later k ks other)
      ∙ ap (λ r. cond (k.key == x) k.slots r) (left_other ks x away))
      (cases_eq k.key key)

-- ---- a slot of no line

pub none_over : (slot : ℕ) (ks : List Keyed) → AreKeysAscending ks → ((key : ℕ) → times slot (slots_of key ks) ≡ 0) → times_over slot ks ≡ 0
none_over slot [] up none = refl
none_over slot (k ∷ ks) up none =
    let first = ap (times slot) (sym (read_first k.key k ks refl)) ∙ none k.key in
    let rest = none_over slot ks up.1 (λ key. ⊎_elim
    (λ (same : k.key ≡ key). ap (times slot) (read_below key ks k.key (omega (arith, same)) up.0))
    (λ other. ap (times slot) (sym (read_later key k ks other)) ∙ none key)
    (cases_eq k.key key)) in
    omega (arith, first, rest)

-- ---- keys go up, as the tags do

shown_above : (v : Lined) (n : ℕ) (ts : List TagLine) → AllAbove n ts → AllKeysAbove n (shown v ts)
shown_above v n [] above = tt
shown_above v n (t ∷ ts) above = (above.0, shown_above v n ts above.1)

pub shown_ascending : (v : Lined) (ts : List TagLine) → Ascend ts → AreKeysAscending (shown v ts)
shown_ascending v [] up = tt
shown_ascending v (t ∷ ts) up = (shown_above v t.tag ts up.0, shown_ascending v ts up.1)
