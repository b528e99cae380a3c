-- The nodes of lists without a slot.
use Rattle.std.proofs.Common.{◌≡◌, ℕ, zero, suc, ◌+◌, ◌-◌, ◌<◌, ◌≤◌, List, [], ◌∷◌, ◌++◌, length, replicate, refl, ap, sym, subst, ◌∙◌, arith, ⊎_elim}
use Rattle.std.proofs.lemmas.Bool.{cases_eq, cases_lt}
use Rattle.std.proofs.lemmas.List.{get_or_append_left, get_or_push, get_or_past, length_push}
use Rattle.iscsi_slots.specs.Slots.{times}
use Rattle.iscsi_lists.specs.declared.link.Link.{Link}
use Rattle.iscsi_lists.specs.Lists.{Linked, linked, AreApart, times_in, total, counted}
use Rattle.iscsi_lists.specs.Linking.{BLANK, NO_LIST, node_at, before_of, first_links, view_of, behind, flat, Follows, AreLinked, AreListed, AreInside, AreKept, IsLinked}
use Rattle.iscsi_lists.proofs.PlaceLemmas.{counted_long, replicate_long}
use Rattle.iscsi_lists.proofs.WithoutLemmas.{times_same, times_other}
use Rattle.iscsi_lists.proofs.KeptLemmas.{linked_again, view_is}

abbrev a_link : ℕ → Link
a_link k = record { before = k - 1; after = k + 1; list = NO_LIST }

pub first_long : (m : ℕ) → length (first_links m) ≡ m
first_long zero = refl
first_long (suc m) = let a = length_push (first_links m) (a_link m) in let b = first_long m in omega (arith, a, b)

at_first : (m k : ℕ) → k < m → node_at (first_links m) k ≡ a_link k
at_first zero k l = absurd (omega (arith, l))
at_first (suc m) k l = ⊎_elim
    (λ below. get_or_append_left (first_links m) (a_link m ∷ []) BLANK k (let a = first_long m in omega (arith, a, below)) ∙ at_first m k below)
    (λ above. let same : k ≡ m = omega (arith, above, l) in ap (λ j. node_at (first_links m ++ a_link m ∷ []) j) same ∙ get_or_push (first_links m) (a_link m) BLANK m (first_long m) ∙ ap a_link (sym same))
    (cases_lt k m)

abbrev pub the_last : ℕ → Link
the_last m = record { before = m - 1; after = 0; list = 0 }

abbrev pub all_links : ℕ → List Link
all_links m = first_links m ++ the_last m ∷ []

all_long : (m : ℕ) → length (all_links m) ≡ m + 1
all_long m = let a = length_push (first_links m) (the_last m) in let b = first_long m in omega (arith, a, b)

at_low : (m k : ℕ) → k < m → node_at (all_links m) k ≡ a_link k
at_low m k l = get_or_append_left (first_links m) (the_last m ∷ []) BLANK k (let a = first_long m in omega (arith, a, l)) ∙ at_first m k l

at_end : (m k : ℕ) → k ≡ m → node_at (all_links m) k ≡ the_last m
at_end m k e = ap (node_at (all_links m)) e ∙ get_or_push (first_links m) (the_last m) BLANK m (first_long m)

before_any : (m k : ℕ) → k ≤ m → before_of (all_links m) k ≡ k - 1
before_any m k l = ⊎_elim
    (λ below. ap (λ (n : Link). n.before) (at_low m k below))
    (λ above. let same : k ≡ m = omega (arith, above, l) in ap (λ (n : Link). n.before) (at_end m k same) ∙ ap (λ j. j - 1) (sym same))
    (cases_lt k m)

follows : (m k : ℕ) → k < m → Follows (all_links m) k (suc k)
follows m k l = record {
  after = ap (λ (n : Link). n.after) (at_low m k l) ∙ omega arith;
  before = before_any m (suc k) (omega (arith, l)) ∙ omega arith;
}

inside_all : (m : ℕ) → AreInside (all_links m)
inside_all m = record {
  after = λ s. let long = all_long m in ⊎_elim
      (λ below. let a = ap (λ (n : Link). n.after) (at_low m s below) in omega (arith, a, long, below))
      (λ above. ⊎_elim
      (λ same. let a = ap (λ (n : Link). n.after) (at_end m s same) in omega (arith, a, long))
      (λ past. let a = ap (λ (n : Link). n.after) (get_or_past (all_links m) s BLANK (omega (arith, long, above, past))) in omega (arith, a, long))
      (cases_eq s m))
      (cases_lt s m);
  before = λ s. let long = all_long m in ⊎_elim
      (λ below. let a = ap (λ (n : Link). n.before) (at_low m s below) in omega (arith, a, long, below))
      (λ above. ⊎_elim
      (λ same. let a = ap (λ (n : Link). n.before) (at_end m s same) in omega (arith, a, long))
      (λ past. let a = ap (λ (n : Link). n.before) (get_or_past (all_links m) s BLANK (omega (arith, long, above, past))) in omega (arith, a, long))
      (cases_eq s m))
      (cases_lt s m);
}

heads_linked : (m n k : ℕ) → n + k ≤ m → AreLinked (all_links m) n (behind n (replicate k []))
heads_linked m n zero l = tt
heads_linked m n (suc k) l = (follows m n (omega (arith, l)), heads_linked m (suc n) k (omega (arith, l)))

slots_linked : (m n r k h : ℕ) → h ≡ n + r + 1 → h + k ≤ m → AreLinked (all_links m) n (counted (suc n) r ++ flat h (replicate k []))
slots_linked m n zero k h at l =
    subst (λ g. AreLinked (all_links m) n (flat g (replicate k []))) (let e : suc n ≡ h = omega (arith, at) in e)
    (follows m n (omega (arith, at, l)), heads_linked m (suc n) k (omega (arith, at, l)))
slots_linked m n (suc r) k h at l = (follows m n (omega (arith, at, l)), slots_linked m (suc n) r k h (omega (arith, at)) l)

times_counted_low : (s n k : ℕ) → s < n → times s (counted n k) ≡ 0
times_counted_low s n zero l = refl
times_counted_low s n (suc k) l = let a = times_other s n (counted (suc n) k) (λ e. omega (arith, e, l)) in let b = times_counted_low s (suc n) k (omega (arith, l)) in omega (arith, a, b)

times_counted_in : (s n k : ℕ) → n ≤ s → s < n + k → times s (counted n k) ≡ 1
times_counted_in s n zero low high = absurd (omega (arith, low, high))
times_counted_in s n (suc k) low high = ⊎_elim
    (λ same. let a = times_same s n (counted (suc n) k) same in let b = times_counted_low s (suc n) k (omega (arith, same)) in omega (arith, a, b))
    (λ other. let a = times_other s n (counted (suc n) k) other in let b = times_counted_in s (suc n) k (omega (arith, low, other)) (omega (arith, high)) in omega (arith, a, b))
    (cases_eq n s)

times_counted_high : (s n k : ℕ) → n + k ≤ s → times s (counted n k) ≡ 0
times_counted_high s n zero l = refl
times_counted_high s n (suc k) l = let a = times_other s n (counted (suc n) k) (λ e. omega (arith, e, l)) in let b = times_counted_high s (suc n) k (omega (arith, l)) in omega (arith, a, b)

times_in_none : (s k : ℕ) → times_in s (replicate k []) ≡ 0
times_in_none s zero = refl
times_in_none s (suc k) = let a = times_in_none s k in omega (arith, a)

total_none : (k : ℕ) → total (replicate k []) ≡ 0
total_none zero = refl
total_none (suc k) = let a = total_none k in omega (arith, a)

listed_none : (nodes : List Link) (i k : ℕ) → AreListed nodes i (replicate k [])
listed_none nodes i zero = tt
listed_none nodes i (suc k) = ((λ s some. absurd (omega (arith, some))), listed_none nodes (suc i) k)

module _ (n room : ℕ) where
  abbrev pub opened : Linked
  opened = linked (counted 1 room) (replicate n []) room

  kept_opened : AreKept (all_links (room + n + 1)) opened
  kept_opened = record {
    chain = slots_linked (room + n + 1) 0 room n (room + 1) (omega arith) (omega arith);
    apart = record {
      once = λ s low high. let a = times_counted_in s 1 room low (omega (arith, high)) in let b = times_in_none s n in omega (arith, a, b);
      some = λ s there. ⊎_elim (λ below. let a = times_counted_low s 1 room below in let b = times_in_none s n in absurd (omega (arith, a, b, there))) (λ above. above) (cases_lt s 1);
      within = λ s there. ⊎_elim (λ below. omega (arith, below)) (λ above. let a = times_counted_high s 1 room (omega (arith, above)) in let b = times_in_none s n in absurd (omega (arith, a, b, there))) (cases_lt s (room + 1));
      all = let a = counted_long 1 room in let b = total_none n in omega (arith, a, b);
    };
    listed = listed_none (all_links (room + n + 1)) 0 n;
    freed = λ s there. ⊎_elim
        (λ below. ap (λ (x : Link). x.list) (at_low (room + n + 1) s (omega (arith, below))))
        (λ above. let a = times_counted_high s 1 room (omega (arith, above)) in absurd (omega (arith, a, there)))
        (cases_lt s (room + 1));
    inside = inside_all (room + n + 1);
    long = let a = all_long (room + n + 1) in let b = replicate_long n in omega (arith, a, b);
  }

  module _ (nodes : List Link) (is : nodes ≡ all_links (room + n + 1)) where
    kept_nodes : AreKept nodes opened
    kept_nodes = subst (λ ns. AreKept ns opened) (sym is) kept_opened

    pub opened_links : room + n + 2 ≤ 4294967295 → IsLinked nodes n room
    opened_links short = linked_again kept_nodes n room (replicate_long n) refl short

    pub opened_view : view_of nodes n room ≡ opened
    opened_view = view_is kept_nodes n room (replicate_long n) refl

    pub opened_apart : AreApart (view_of nodes n room)
    opened_apart = subst AreApart (sym opened_view) kept_nodes.apart
