-- What a completed abort covers is over: what an item does, and where it stands.
use Rattle.std.proofs.Common.{◌≡◌, ℕ, ◌<◌, ◌≤◌, ◌||◌, true, false, List, [], ◌∷◌, ◌++◌, None, refl, ap, ◌∙◌, arith}
use Rattle.std.specs.List.{list_any, filter_map}
use Rattle.iscsi_rules.specs.rules.Settings.{Setting}
use Rattle.iscsi_rules.specs.rules.Trace.{Arrival, Mark, Trace, has, shown, is_received, admits_at, delivers_number, held, leaves_ticket, live, is_among}
use Rattle.iscsi_rules.specs.promises.Meaning.{voids_number}
use Rattle.iscsi_rules.specs.promises.Aborts.{is_set_abort, IsCompleted, is_ticket_covered}

-- ---- an item after t, where nothing below p is due any more

pub record Fits (o : Setting) (p : ℕ) (t : Trace) (item : List Mark) : Type 0 where
  -- what leaves is live, and what is delivered is held, at p or above
  pub leaves : (k : ℕ) → is_among k (live t) ≡ false → list_any (leaves_ticket k) item ≡ false
  pub delivers_held : (n : ℕ) → held t n ≡ None → list_any (delivers_number n) item ≡ false
  pub delivers_on : (n : ℕ) → n < p → list_any (delivers_number n) item ≡ false
  -- a number that was received admits nothing, and one that is voided never did
  pub admits : (n : ℕ) → is_received t n ≡ true → filter_map (admits_at n) item ≡ []
  pub voids : (n : ℕ) → list_any (voids_number n) item ≡ true → shown (admits_at n) (item ∷ t) ≡ []
  -- an abort of a whole set stands at p at the latest, and what it covers leaves, if it didn't before
  pub reaches : (f : Arrival) → IsCompleted f item → is_set_abort f.request ≡ true → f.number ≤ p
  pub sweeps : (f : Arrival) → IsCompleted f item → is_set_abort f.request ≡ true → (k : ℕ) → is_ticket_covered o f item t k ≡ true → has (leaves_ticket k) (item ∷ t) ≡ true

-- each item fits in where it stands, and none stands past p
abbrev pub Fit : Setting → ℕ → Trace → Type 0
Fit o p [] = Unit {0}
Fit o p (item ∷ t) = (q : ℕ) × ((q ≤ p) × (Fits o q t item × Fit o q t))

pub Fit-on : (o : Setting) (p q : ℕ) (t : Trace) → p ≤ q → Fit o p t → Fit o q t
Fit-on o p q [] on x = tt
Fit-on o p q (item ∷ t) on x = (x.0, ((let z : x.0 ≤ q = omega (arith, x.1.0) in z), x.1.1))

pub Fit-more : (o : Setting) (p : ℕ) (t : Trace) (item : List Mark) → Fit o p t → Fits o p t item → Fit o p (item ∷ t)
Fit-more o p t item x f = (p, ((let z : p ≤ p = omega arith in z), (f, x)))

-- an item stands where it does, and the later ones deliver nothing below
pub record Stood (o : Setting) (later : Trace) (item : List Mark) (before : Trace) : Type 0 where
  pub place : ℕ
  pub fits : Fits o place before item
  pub none_below : (n : ℕ) → n < place → has (delivers_number n) later ≡ false

-- its place is no later than p
record StoodBy (o : Setting) (p : ℕ) (later : Trace) (item : List Mark) (before : Trace) : Type 0 where
  stood : Stood o later item before
  by : stood.place ≤ p

stood_by : (o : Setting) (p : ℕ) (later : Trace) (item : List Mark) (before : Trace) → Fit o p (later ++ item ∷ before) → StoodBy o p later item before
stood_by o p [] item before x = record { stood = record { place = x.0; fits = x.1.1.0; none_below = λ n lt. refl }; by = x.1.0 }
stood_by o p (i ∷ later) item before x =
    let s : StoodBy o x.0 later item before = stood_by o x.0 later item before x.1.1.1 in
    let now : Fits o x.0 (later ++ item ∷ before) i = x.1.1.0 in
    let here : x.0 ≤ p = x.1.0 in
    record {
      stood = record {
        place = s.stood.place;
        fits = s.stood.fits;
        none_below = λ n lt. ap (λ b. b || has (delivers_number n) later) (now.delivers_on n (omega (arith, lt, s.by))) ∙ s.stood.none_below n lt;
      };
      by = omega (arith, s.by, here);
    }

pub stood : (o : Setting) (p : ℕ) (later : Trace) (item : List Mark) (before : Trace) → Fit o p (later ++ item ∷ before) → Stood o later item before
stood o p later item before x = let s : StoodBy o p later item before = stood_by o p later item before x in s.stood
