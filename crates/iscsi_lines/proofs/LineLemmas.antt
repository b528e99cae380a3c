-- All lines, where one of them is settled, and what is ahead, where a command owes less.
use Rattle.std.proofs.Common.{◌≡◌, ℕ, ◌+◌, ◌<◌, ◌==◌, ◌||◌, ◌&&◌, not, Bool, true, false, List, [], ◌∷◌, ◌++◌, length, get_or, set, refl, ap, sym, subst, ◌∙◌, arith, ⊎_elim}
use Rattle.std.proofs.lemmas.Bool.{cases_eq, false≢true, and_parts, and_from, not-true}
use Rattle.std.proofs.lemmas.List.{get_or-set_same, get_or-set_other}
use Rattle.iscsi_lists.specs.Lists.{Listed}
use Rattle.iscsi_lines.specs.declared.item.Owing.{Owing}
use Rattle.iscsi_lines.specs.declared.item.Item.{Item}
use Rattle.iscsi_lines.specs.declared.item.Item.TheVariants.{Command, Answer}
use Rattle.iscsi_lines.specs.Lines.{BLANK, owes, items_of}
use Rattle.iscsi_lines.specs.Settling.{AllAre, is_ahead, IsLess, slots_at, Moves}

-- what stands in each line stays there, where one of them is settled
pub whole_at : (conns : List ℕ) (t u : Listed Item) (line : ℕ) → line < length conns → Moves t u line (length conns + line)
    → (k : ℕ) → k < length conns → slots_at u k ++ slots_at u (length conns + k) ≡ slots_at t k ++ slots_at t (length conns + k)
whole_at conns t u line low moves k l = ⊎_elim
    (λ (e : k ≡ line). subst (λ j. slots_at u j ++ slots_at u (length conns + j) ≡ slots_at t j ++ slots_at t (length conns + j)) (sym e) moves.whole)
    (λ other.
    ap (λ r. r ++ slots_at u (length conns + k)) (moves.same.others k other (λ e. omega (arith, e, l)))
    ∙ ap (λ r. slots_at t k ++ r) (moves.same.others (length conns + k) (λ e. omega (arith, e, low)) (λ e. other (omega (arith, e)))))
    (cases_eq k line)

-- ---- a command owes less

less_runs : (a b : Bool) → (a ≡ true → b ≡ true) → not b ≡ true → not a ≡ true
less_runs true b less off = absurd (false≢true (sym (ap not (less refl)) ∙ off))
less_runs false b less off = refl

-- what is ahead stays there, where it owes something
pub less_ahead : (conn : ℕ) (before : Item) (c : Owing) → IsLess before c → owes c ≡ true → is_ahead conn before ≡ true → is_ahead conn (Command c) ≡ true
less_ahead conn (Answer other) c less owing on = absurd less
less_ahead conn (Command b) c less owing on =
    let parts = and_parts (not b.running) (b.under_way && b.conn == conn) on in
    let more = and_parts b.under_way (b.conn == conn) parts.1 in
    let rests : not c.running ≡ true = less_runs c.running b.running less.1.0 parts.0 in
    let way : c.under_way ≡ true = sym (ap (λ r. r || c.under_way) (not-true c.running rests)) ∙ owing in
    and_from (not c.running) (c.under_way && c.conn == conn) rests (and_from c.under_way (c.conn == conn) way (ap (λ k. k == conn) less.0 ∙ more.1))

-- all of a list stays ahead, where one of its commands owes less, and something
pub all_less : (conn : ℕ) (values : List Item) (slot : ℕ) (c : Owing) (xs : List ℕ) → slot < length values → IsLess (get_or values slot BLANK) c → owes c ≡ true
    → AllAre (is_ahead conn) (items_of values xs) → AllAre (is_ahead conn) (items_of (set values slot (Command c)) xs)
all_less conn values slot c [] l less owing all = tt
all_less conn values slot c (y ∷ ys) l less owing all = (
  ⊎_elim
      (λ (same : y ≡ slot).
      ap (is_ahead conn) (ap (λ k. get_or (set values slot (Command c)) k BLANK) same ∙ get_or-set_same values slot (Command c) BLANK l)
      ∙ less_ahead conn (get_or values slot BLANK) c less owing (ap (λ k. is_ahead conn (get_or values k BLANK)) (sym same) ∙ all.0))
      (λ other. ap (is_ahead conn) (get_or-set_other values slot y (Command c) BLANK other) ∙ all.0)
      (cases_eq y slot),
  all_less conn values slot c ys l less owing all.1,
)
