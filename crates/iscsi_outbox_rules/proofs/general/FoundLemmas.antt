-- What holds of the connection with each CID, which is the first with it.
use Rattle.std.proofs.Common.{◌≡◌, ℕ, ◌==◌, cond, true, false, List, [], ◌∷◌, map, filter, Option, Some, refl, ap, sym, subst, ◌∙◌}
use Rattle.std.proofs.lemmas.Bool.{cond_both, eqb-true}
use Rattle.iscsi_rules.specs.rules.Trace.{first_of}
use Rattle.iscsi_rules.proofs.general.ListLemmas.{first_itself}
use Rattle.iscsi_outbox_rules.specs.rules.Boxes.{Link}
use Rattle.iscsi_outbox_rules.specs.rules.Queues.{at_link}

abbrev pub find_link : ℕ → List Link → Option Link
find_link conn links = first_of (filter (λ (l : Link). l.conn == conn) links)

abbrev pub EachFound : (Link → Type 0) → List Link → Type 0
EachFound P links = (conn : ℕ) (l : Link) → find_link conn links ≡ Some l → P l

pub found-conn : (conn : ℕ) (links : List Link) (l : Link) → find_link conn links ≡ Some l → l.conn ≡ conn
found-conn conn links l found = eqb-true l.conn conn (first_itself (λ (m : Link). m.conn == conn) links l found)

-- the one that a change makes of it
pub find-map : (g : Link → Link) → ((l : Link) → (g l).conn ≡ l.conn) → (links : List Link) (conn : ℕ) (l : Link) → find_link conn (map g links) ≡ Some l → (m : Link) × (find_link conn links ≡ Some m) × (g m ≡ l)
find-map g kept [] conn l found = absurd cc
find-map g kept (m ∷ links) conn l found =
    elim (m.conn == conn) as (λ v. first_of (cond v (g m ∷ filter (λ (k : Link). k.conn == conn) (map g links)) (filter (λ (k : Link). k.conn == conn) (map g links))) ≡ Some l
    → (k : Link) × (first_of (cond v (m ∷ filter (λ (x : Link). x.conn == conn) links) (filter (λ (x : Link). x.conn == conn) links)) ≡ Some k) × (g k ≡ l)) [
      | true ↦ λ here. (m, refl, cc)
      | false ↦ λ later. find-map g kept links conn l later
    ] (ap (λ c. first_of (cond (c == conn) (g m ∷ filter (λ (k : Link). k.conn == conn) (map g links)) (filter (λ (k : Link). k.conn == conn) (map g links)))) (sym (kept m)) ∙ found)

pub found-map : (P Q : Link → Type 0) (g : Link → Link) → ((l : Link) → (g l).conn ≡ l.conn) → (links : List Link) → ((conn : ℕ) (l : Link) → find_link conn links ≡ Some l → P l → Q (g l)) → EachFound P links → EachFound Q (map g links)
found-map P Q g kept links f h conn l found =
    let m = find-map g kept links conn l found in
    subst Q m.2 (f conn m.0 m.1 (h conn m.0 m.1))

pub found-at_link : (P Q : Link → Type 0) (conn : ℕ) (change : Link → Link) → ((l : Link) → (change l).conn ≡ l.conn) → (links : List Link)
    → ((l : Link) → find_link conn links ≡ Some l → P l → Q (change l)) → ((l : Link) → (l.conn == conn) ≡ false → P l → Q l) → EachFound P links → EachFound Q (at_link conn change links)
found-at_link P Q conn change kept links here there h =
    found-map P Q (λ (l : Link). cond (l.conn == conn) (change l) l) (λ l. cond_both (l.conn == conn) (change l) l (λ (m : Link). m.conn ≡ l.conn) (λ is. kept l) (λ is. refl)) links
    (λ c l found k. cond_both (l.conn == conn) (change l) l Q
    (λ is. here l (ap (λ e. find_link e links) (sym (eqb-true l.conn conn is) ∙ found-conn c links l found) ∙ found) k)
    (λ isnt. there l isnt k)) h

pub found-weaken : (P Q : Link → Type 0) (links : List Link) → ((l : Link) → P l → Q l) → EachFound P links → EachFound Q links
found-weaken P Q links f h conn l found = f l (h conn l found)
