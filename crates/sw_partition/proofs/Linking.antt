-- Tables of links, and the classes of two tables united by links.
use Rattle.std.proofs.Common.{◌≡◌, ◌≢◌, ℕ, ◌+◌, ◌<◌, ◌≤◌, ◌⊎◌, inl, inr, ◌↔◌, true, min, List}
use Rattle.std.proofs.Common.{length, set, slice_index, refl, sym, subst, ap, ◌∙◌, arith}
use Rattle.std.proofs.lemmas.Bool.{cases_eq}
use Rattle.std.proofs.lemmas.List.{get_or-set_same, get_or-set_other}
use Rattle.std.proofs.Math.ListN.{length-set}
use Rattle.sw_partition.specs.Tables.{AreLabels, AreLinks, KeepsLinks, IsSunk, IsLinked}
use Rattle.sw_partition.specs.Tables.{IsFlattened, IsCoarser, IsUnited}

-- what held below x and holds at x holds below x + 1
below_next : (P : ℕ → Type 0) (x : ℕ) → ((p : ℕ) → p < x → P p) → P x → (p : ℕ) → p < x + 1 → P p
below_next P x below here p lt = elim (cases_eq p x) [
  | inl e ↦ subst (λ v. P v) (sym e) here
  | inr ne ↦ below p (omega (arith, ne, lt))
]

-- ---- a link that is set
set_same : (now : List ℕ) (x t : ℕ) → x < length now → slice_index (set now x t) x ≡ t
set_same now x t lt = get_or-set_same now x t 0 lt

set_other : (now : List ℕ) (x t p : ℕ) → p ≢ x → slice_index (set now x t) p ≡ slice_index now p
set_other now x t p ne = get_or-set_other now x p t 0 ne

-- it is kept where the element is together with the one that it is now linked to
kept_set : (now z : List ℕ) (x t : ℕ) → slice_index z x ≡ slice_index z t → KeepsLinks now z
    → KeepsLinks (set now x t) z
kept_set now z x t same keeps = record {
  each = λ p p_lt.
      let lt : p < length now = subst (λ n. p < n) (length-set now x t) p_lt in
      elim (cases_eq p x) [
        | inl e ↦ ap (slice_index z) e
            ∙ (same ∙ ap (slice_index z)
            (sym (ap (slice_index (set now x t)) e
            ∙ set_same now x t (subst (λ v. v < length now) e lt))))
        | inr ne ↦ keeps.each p lt ∙ ap (slice_index z) (sym (set_other now x t p ne))
      ];
}

-- the links before are kept where it is together with the one that it was linked to
kept_unset : (now z : List ℕ) (x t : ℕ) → slice_index z x ≡ slice_index z (slice_index now x)
    → KeepsLinks (set now x t) z → KeepsLinks now z
kept_unset now z x t same keeps = record {
  each = λ p lt. elim (cases_eq p x) [
    | inl e ↦ ap (slice_index z) e ∙ (same ∙ ap (λ v. slice_index z (slice_index now v)) (sym e))
    | inr ne ↦ keeps.each p (subst (λ n. p < n) (sym (length-set now x t)) lt)
        ∙ ap (slice_index z) (set_other now x t p ne)
  ];
}

kept_at : (now z : List ℕ) (x t : ℕ) → x < length now → KeepsLinks (set now x t) z
    → slice_index z x ≡ slice_index z t
kept_at now z x t lt keeps = keeps.each x (subst (λ n. x < n) (sym (length-set now x t)) lt)
    ∙ ap (slice_index z) (set_same now x t lt)

kept_beside : (now z : List ℕ) (x t p : ℕ) → p < length now → p ≢ x → KeepsLinks (set now x t) z
    → slice_index z p ≡ slice_index z (slice_index now p)
kept_beside now z x t p lt ne keeps =
    keeps.each p (subst (λ n. p < n) (sym (length-set now x t)) lt)
    ∙ ap (slice_index z) (set_other now x t p ne)

-- ---- labels become links
-- the labels below x are links, and each other is as it was or a link to one below x
pub record IsSinking (old now : List ℕ) (x : ℕ) : Type 0 where
  pub length_same : length now ≡ length old
  pub below : (p : ℕ) → p < x → slice_index now p ≤ p
  pub above : (p : ℕ) → x ≤ p → p < length old → (slice_index now p ≡ slice_index old p)
      ⊎ (slice_index now p < x)
  pub same : (z : List ℕ) → KeepsLinks now z ↔ KeepsLinks old z

pub sinking_starts : (old : List ℕ) → IsSinking old old 0
sinking_starts old = record {
  length_same = refl;
  below =
      λ p lt. absurd (omega (arith, lt));
  above = λ p ge lt. inl refl;
  same = λ z. (λ k. k, λ k. k);
}

pub sinking_stays : (old now : List ℕ) (x : ℕ) → slice_index now x ≤ x → IsSinking old now x
    → IsSinking old now (x + 1)
sinking_stays old now x le s = record {
  length_same = s.length_same;
  below = below_next (λ p. slice_index now p ≤ p) x s.below le;
  above = λ p ge lt. elim (s.above p (omega (arith, ge)) lt) [
    | inl e ↦ inl e
    | inr below ↦ inr (omega (arith, below))
  ];
  same = s.same;
}

-- the label of x is above x: its own link is to x, or to an element below x as before
label_link : (old now : List ℕ) (x : ℕ) → x < length old → AreLabels old → x < slice_index now x
    → IsSinking old now x → (slice_index now x < length old)
    × ((slice_index now (slice_index now x) ≡ slice_index now x)
    ⊎ (slice_index now (slice_index now x) < x))
label_link old now x x_lt labels up s = elim (s.above x (omega arith) x_lt) [
  | inr below ↦ absurd (omega (arith, below, up))
  | inl e ↦ (
      let label_lt : slice_index now x < length old =
      subst (λ v. v < length old) (sym e) (labels.within x x_lt) in (
        label_lt,
        elim (s.above (slice_index now x) (omega (arith, up)) label_lt) [
          | inl kept ↦ inl (kept ∙ (ap (slice_index old) e ∙ (labels.own x x_lt ∙ sym e)))
          | inr below ↦ inr below
        ],
      )
      )
]

pub sinking_links : (old now : List ℕ) (x first : ℕ) → x < length old → AreLabels old
    → x < slice_index now x → first ≡ min (slice_index now (slice_index now x)) x
    → IsSinking old now x → IsSinking old (set (set now (slice_index now x) first) x first) (x + 1)
sinking_links old now x first x_lt labels up first_is s =
    let label : ℕ = slice_index now x in
    let mid : List ℕ = set now label first in
    let found = label_link old now x x_lt labels up s in
    let first_le : first ≤ x = omega (arith, first_is) in
    let apart : x ≢ label = (λ e. omega (arith, up, e)) in
    let x_now : x < length now = omega (arith, s.length_same, x_lt) in
    let label_now : label < length now = omega (arith, s.length_same, found.0) in
    let mid_same : length mid ≡ length now = length-set now label first in
    let x_mid : x < length mid = omega (arith, mid_same, x_now) in
    let label_mid : label < length mid = omega (arith, mid_same, label_now) in
    let at_x : slice_index (set mid x first) x ≡ first = set_same mid x first x_mid in
    let at_label : slice_index (set mid x first) label ≡ first =
    set_other mid x first label (λ e. apart (sym e)) ∙ set_same now label first label_now in
    let near : ((slice_index now label ≡ label) × (first ≡ x)) ⊎ (first ≡ slice_index now label) =
    elim found.1 [
      | inl own ↦ inl (own, omega (arith, first_is, own, up))
      | inr below ↦ inr (omega (arith, first_is, below))
    ] in
    record {
      length_same = length-set mid x first ∙ (mid_same ∙ s.length_same);
      below = below_next (λ p. slice_index (set mid x first) p ≤ p) x
          (λ p lt. subst (λ v. v ≤ p)
          (sym (set_other mid x first p (λ e. omega (arith, lt, e))
          ∙ set_other now label first p (λ e. omega (arith, lt, up, e)))) (s.below p lt))
          (subst (λ v. v ≤ x) (sym at_x) first_le);
      above = λ p ge lt. elim (cases_eq p label) [
        | inl e ↦ inr (subst (λ v. v < x + 1)
            (sym (ap (slice_index (set mid x first)) e ∙ at_label)) (omega (arith, first_le)))
        | inr ne ↦ above_other s mid x first p label ge lt ne
            (set_other mid x first p (λ e. omega (arith, ge, e)) ∙ set_other now label first p ne)
      ];
      same = λ z. (
        (λ keeps.
            let x_first : slice_index z x ≡ slice_index z first =
            kept_at mid z x first x_mid keeps in
            let label_first : slice_index z label ≡ slice_index z first =
            kept_beside mid z x first label label_mid (λ e. apart (sym e)) keeps
            ∙ ap (slice_index z) (set_same now label first label_now) in
            let back : KeepsLinks mid z =
            kept_unset mid z x first (x_first
            ∙ (sym label_first ∙ ap (slice_index z) (sym (set_other now label first x apart))))
            keeps in
            (s.same z).0 (kept_unset now z label first (elim near [
              | inl own ↦ ap (slice_index z) (sym own.0)
              | inr linked ↦ label_first ∙ ap (slice_index z) linked
            ]) back)),
        (λ keeps_old.
            let keeps : KeepsLinks now z = (s.same z).1 keeps_old in
            let x_label : slice_index z x ≡ slice_index z label = keeps.each x x_now in
            let label_first : slice_index z label ≡ slice_index z first = elim near [
              | inl own ↦ sym x_label ∙ ap (slice_index z) (sym own.1)
              | inr linked ↦ keeps.each label label_now ∙ ap (slice_index z) (sym linked)
            ] in
            kept_set mid z x first (x_label ∙ label_first)
            (kept_set now z label first label_first keeps)),
      );
    }
  where
    above_other : {old now : List ℕ} {x : ℕ} → IsSinking old now x
        → (mid : List ℕ) (x' first p label : ℕ) → x + 1 ≤ p → p < length old → p ≢ label
        → slice_index (set mid x' first) p ≡ slice_index now p
        → (slice_index (set mid x' first) p ≡ slice_index old p)
        ⊎ (slice_index (set mid x' first) p < x + 1)
    above_other {old} {now} {x} s mid x' first p label ge lt ne e =
        elim (s.above p (omega (arith, ge)) lt) [
          | inl kept ↦ inl (e ∙ kept)
          | inr below ↦ inr (omega (arith, e, below))
        ]

pub sinking_ends : (old now : List ℕ) (x : ℕ) → length old ≤ x → IsSinking old now x
    → IsSunk old now
sinking_ends old now x ge s = record {
  length_same = s.length_same;
  links = record { down = λ p lt. s.below p (omega (arith, lt, s.length_same, ge)) };
  same = s.same;
}

-- ---- two classes are put together
-- what is left to do is to put u and v together
pub record IsLinking (x y : ℕ) (old now : List ℕ) (u v : ℕ) : Type 0 where
  pub length_same : length now ≡ length old
  pub links : AreLinks now
  pub u_in : u < length now
  pub v_in : v < length now
  pub same : (z : List ℕ) → (KeepsLinks now z × (slice_index z u ≡ slice_index z v))
      ↔ (KeepsLinks old z × (slice_index z x ≡ slice_index z y))

pub linking_starts : (x y : ℕ) (old : List ℕ) → x < length old → y < length old → AreLinks old
    → IsLinking x y old old x y
linking_starts x y old x_lt y_lt links =
    record {
      length_same = refl;
      links = links;
      u_in = x_lt;
      v_in = y_lt;
      same =
          λ z. (λ k. k, λ k. k);
    }

linking_swaps : (x y : ℕ) (old now : List ℕ) (u v : ℕ) → IsLinking x y old now u v
    → IsLinking x y old now v u
linking_swaps x y old now u v l = record {
  length_same = l.length_same;
  links = l.links;
  u_in = l.v_in;
  v_in = l.u_in;
  same = λ z. (
    (λ k. (l.same z).0 (k.0, sym k.1)),
    (λ k. (let h = (l.same z).1 k in (h.0, sym h.1))),
  );
}

-- u is linked to where v is, and what u was linked to is left
linking_goes : (x y : ℕ) (old now : List ℕ) (u v : ℕ) → slice_index now v < slice_index now u
    → IsLinking x y old now u v
    → IsLinking x y old (set now u (slice_index now v)) (slice_index now u) v
linking_goes x y old now u v lt l =
    let t : ℕ = slice_index now v in
    let next : ℕ = slice_index now u in
    let apart : v ≢ u = (λ e. omega (arith, lt, ap (slice_index now) e)) in
    let same_length : length (set now u t) ≡ length now = length-set now u t in
    record {
      length_same = same_length ∙ l.length_same;
      links = record {
        down = λ p p_lt. elim (cases_eq p u) [
          | inl e ↦ omega (
            arith,
            ap (slice_index (set now u t)) e
                ∙ set_same now u t l.u_in,
            lt,
            l.links.down u l.u_in,
            e,
          )
          | inr ne ↦ omega (
            arith,
            set_other now u t p ne,
            l.links.down p (subst (λ n. p < n) same_length p_lt),
          )
        ];
      };
      u_in = omega (arith, same_length, l.links.down u l.u_in, l.u_in);
      v_in = omega (arith, same_length, l.v_in);
      same = λ z. (
        (λ k.
            let u_t : slice_index z u ≡ slice_index z t = kept_at now z u t l.u_in k.0 in
            let v_t : slice_index z v ≡ slice_index z t =
            kept_beside now z u t v l.v_in apart k.0 in
            let u_v : slice_index z u ≡ slice_index z v = u_t ∙ sym v_t in
            (l.same z).0 (kept_unset now z u t (u_v ∙ sym k.1) k.0, u_v)),
        (λ k.
            let h = (l.same z).1 k in
            (kept_set now z u t (h.1 ∙ h.0.each v l.v_in) h.0, sym (h.0.each u l.u_in) ∙ h.1)),
      );
    }

linking_falls : (now : List ℕ) (u v : ℕ) → AreLinks now → u < length now
    → slice_index now v < slice_index now u
    → slice_index now u + v + slice_index (set now u (slice_index now v))
    (slice_index now u) + slice_index
    (set now u (slice_index now v)) v < u + v + slice_index now u + slice_index now v
linking_falls now u v links u_lt lt =
    let t : ℕ = slice_index now v in
    let next : ℕ = slice_index now u in
    let down : next ≤ u = links.down u u_lt in
    let at_v : slice_index (set now u t) v ≡ t =
    set_other now u t v (λ e. omega (arith, lt, ap (slice_index now) e)) in
    elim (cases_eq next u) [
      | inl e ↦ omega (arith, lt, at_v, e, ap (slice_index (set now u t)) e ∙ set_same now u t u_lt)
      | inr ne ↦ omega (
        arith,
        lt,
        at_v,
        ne,
        down,
        set_other now u t next ne,
        links.down next (omega (arith, down, u_lt)),
      )
    ]

-- what a turn leaves, in which the element `high` goes: less than with u and v
pub record IsTurned (x y : ℕ) (old now : List ℕ) (u v high low : ℕ) : Type 0 where
  pub linking : IsLinking x y old (set now high (slice_index now low)) (slice_index now high) low
  pub less : slice_index now high + low + slice_index (set now high (slice_index now low))
      (slice_index now high) + slice_index
      (set now high (slice_index now low)) low < u + v + slice_index now u + slice_index now v

-- the element with the higher link goes
pub linking_turn : (x y : ℕ) (old now : List ℕ) (u v high low : ℕ)
    → slice_index now u ≢ slice_index now v
    → ((slice_index now u < slice_index now v) × (high ≡ v) × (low ≡ u))
    ⊎ ((slice_index now v ≤ slice_index now u) × (high ≡ u) × (low ≡ v)) → IsLinking x y old now u v
    → IsTurned x y old now u v high low
linking_turn x y old now u v high low apart (inl h) l =
    subst (λ w. IsTurned x y old now u v w low) (sym h.1)
    (subst (λ w. IsTurned x y old now u v v w) (sym h.2) (record {
      linking = linking_goes x y old now v u h.0 (linking_swaps x y old now u v l);
      less = omega (arith, linking_falls now v u l.links l.v_in h.0);
    }))
linking_turn x y old now u v high low apart (inr h) l =
    let lt : slice_index now v < slice_index now u = omega (arith, h.0, apart) in
    subst (λ w. IsTurned x y old now u v w low) (sym h.1)
    (subst (λ w. IsTurned x y old now u v u w) (sym h.2) (record {
      linking = linking_goes x y old now u v lt l;
      less = linking_falls now u v l.links l.u_in lt;
    }))

pub linking_ends : (x y : ℕ) (old now : List ℕ) (u v : ℕ) → slice_index now u ≡ slice_index now v
    → IsLinking x y old now u v → IsLinked x y old now
linking_ends x y old now u v e l = record {
  length_same = l.length_same;
  links = l.links;
  same = λ z. (
    (λ k. (l.same z).0 (k, k.each u l.u_in ∙ (ap (slice_index z) e ∙ sym (k.each v l.v_in)))),
    (λ k. ((l.same z).1 k).0),
  );
}

-- ---- links become labels
pub record IsFlattening (old now : List ℕ) (x : ℕ) : Type 0 where
  pub length_same : length now ≡ length old
  pub below : (p : ℕ) → p < x → slice_index now p ≤ p
  pub own : (p : ℕ) → p < x → slice_index now (slice_index now p) ≡ slice_index now p
  pub keeps : (p : ℕ) → p < x → slice_index now p ≡ slice_index now (slice_index old p)
  pub rest : (p : ℕ) → x ≤ p → slice_index now p ≡ slice_index old p
  pub least : (z : List ℕ) → KeepsLinks old z → (p : ℕ) → p < x
      → slice_index z p ≡ slice_index z (slice_index now p)

pub flattening_starts : (old : List ℕ) → IsFlattening old old 0
flattening_starts old = record {
  length_same = refl;
  below =
      λ p lt. absurd (omega (arith, lt));
  own = λ p lt. absurd (omega (arith, lt));
  keeps =
      λ p lt. absurd (omega (arith, lt));
  rest = λ p ge. refl;
  least =
      λ z k p lt. absurd (omega (arith, lt));
}

pub flattening_goes : (old now : List ℕ) (x : ℕ) → x < length old → AreLinks old
    → IsFlattening old now x
    → IsFlattening old (set now x (slice_index now (slice_index now x))) (x + 1)
flattening_goes old now x x_lt links f =
    let v : ℕ = slice_index now x in
    let r : ℕ = slice_index now v in
    let new : List ℕ = set now x r in
    let v_is : v ≡ slice_index old x = f.rest x (omega arith) in
    let v_le : v ≤ x = omega (arith, v_is, links.down x x_lt) in
    let x_now : x < length now = omega (arith, f.length_same, x_lt) in
    let at_x : slice_index new x ≡ r = set_same now x r x_now in
    let before : (p : ℕ) → p < x → slice_index new p ≡ slice_index now p =
    (λ p lt. set_other now x r p (λ e. omega (arith, lt, e))) in
    let root : ((v ≡ x) × (r ≡ x)) ⊎ ((v < x) × (r ≤ v)) = elim (cases_eq v x) [
      | inl e ↦ inl (e, ap (slice_index now) e ∙ e)
      | inr ne ↦ (let lt : v < x = omega (arith, ne, v_le) in inr (lt, f.below v lt))
    ] in
    record {
      length_same = length-set now x r ∙ f.length_same;
      below = below_next (λ p. slice_index new p ≤ p) x
          (λ p lt. omega (arith, before p lt, f.below p lt)) (elim root [
            | inl h ↦ omega (arith, at_x, h.1)
            | inr h ↦ omega (arith, at_x, h.0, h.1)
          ]);
      own = below_next (λ p. slice_index new (slice_index new p) ≡ slice_index new p) x
          (λ p lt. ap (slice_index new) (before p lt)
          ∙ (before (slice_index now p) (omega (arith, f.below p lt, lt))
          ∙ (f.own p lt ∙ sym (before p lt)))) (elim root [
            | inl h ↦ ap (slice_index new) (at_x ∙ h.1)
            | inr h ↦ ap (slice_index new) at_x
                ∙ (before r (omega (arith, h.0, h.1)) ∙ (f.own v h.0 ∙ sym at_x))
          ]);
      keeps = below_next (λ p. slice_index new p ≡ slice_index new (slice_index old p)) x
          (λ p lt. before p lt ∙ (f.keeps p lt
          ∙ sym (before (slice_index old p)
          (omega (arith, links.down p (omega (arith, lt, x_lt)), lt))))) (elim root [
            | inl h ↦ ap (slice_index new) (sym h.0 ∙ v_is)
            | inr h ↦ at_x ∙ (sym (before v h.0) ∙ ap (slice_index new) v_is)
          ]);
      rest = λ p ge. set_other now x r p (λ e. omega (arith, ge, e)) ∙ f.rest p (omega (arith, ge));
      least = λ z k. below_next (λ p. slice_index z p ≡ slice_index z (slice_index new p)) x
          (λ p lt. f.least z k p lt ∙ ap (slice_index z) (sym (before p lt))) (elim root [
            | inl h ↦ ap (slice_index z) (sym (at_x ∙ h.1))
            | inr h ↦ k.each x x_lt ∙ (ap (slice_index z) (sym v_is)
                ∙ (f.least z k v h.0 ∙ ap (slice_index z) (sym at_x)))
          ]);
    }

pub flattening_ends : (old now : List ℕ) (x : ℕ) → length old ≤ x → IsFlattening old now x
    → IsFlattened old now
flattening_ends old now x ge f = record {
  length_same = f.length_same;
  labels = record {
    within = λ p lt. omega (arith, f.below p (omega (arith, lt, f.length_same, ge)), lt);
    own = λ p lt. f.own p (omega (arith, lt, f.length_same, ge));
  };
  keeps = record { each = λ p lt. f.keeps p (omega (arith, lt, ge)) };
  least = λ z k. record { each = λ p lt. f.least z k p (omega (arith, lt, f.length_same, ge)) };
}

-- ---- the classes of two tables are united
pub keeps_coarser : (a z : List ℕ) → KeepsLinks a z → IsCoarser a z
keeps_coarser a z keeps =
    record {
      each = λ p q p_lt q_lt e. keeps.each p p_lt
          ∙ (ap (slice_index z) e ∙ sym (keeps.each q q_lt));
    }

coarser_keeps : (a z : List ℕ) → AreLabels a → IsCoarser a z → KeepsLinks a z
coarser_keeps a z labels coarser =
    record {
      each = λ p lt. coarser.each p (slice_index a p) lt (labels.within p lt)
          (sym (labels.own p lt));
    }

-- links that are kept by the tables that keep the old labels and the other's below x
pub record IsUniting (old other now : List ℕ) (x : ℕ) : Type 0 where
  pub length_same : length now ≡ length old
  pub links : AreLinks now
  pub same : (z : List ℕ) → KeepsLinks now z
      ↔ (KeepsLinks old z × ((p : ℕ) → p < x
      → slice_index z p ≡ slice_index z (slice_index other p)))

pub uniting_starts : (old other now : List ℕ) → IsSunk old now → IsUniting old other now 0
uniting_starts old other now sunk = record {
  length_same = sunk.length_same;
  links = sunk.links;
  same = λ z. (
    (λ k. ((sunk.same z).0 k, λ p lt. absurd (omega (arith, lt)))),
    (λ k. (sunk.same z).1 k.0),
  );
}

pub uniting_goes : (old other now new : List ℕ) (x : ℕ) → IsLinked x (slice_index other x) now new
    → IsUniting old other now x → IsUniting old other new (x + 1)
uniting_goes old other now new x linked u = record {
  length_same = linked.length_same ∙ u.length_same;
  links = linked.links;
  same = λ z. (
    (λ k.
        let h = (linked.same z).0 k in
        let w = (u.same z).0 h.0 in
        (w.0, below_next (λ p. slice_index z p ≡ slice_index z (slice_index other p)) x w.1 h.1)),
    (λ k. (linked.same z).1 (
      (u.same z).1 (k.0, λ p lt. k.1 p (omega (arith, lt))),
      k.1 x (omega arith),
    )),
  );
}

pub uniting_ends : (old other now new : List ℕ) (x : ℕ) → x ≡ length old → length other ≡ length old
    → AreLabels old → AreLabels other → (KeepsLinks other old → ⊥) → IsFlattened now new
    → IsUniting old other now x → IsUnited old other new true
uniting_ends old other now new x x_is other_length old_labels other_labels apart flat u =
    let kept = (u.same new).0 flat.keeps in
    let takes : KeepsLinks other new =
    record { each = λ p lt. kept.1 p (omega (arith, lt, other_length, x_is)) } in
    let new_length : length new ≡ length old = flat.length_same ∙ u.length_same in
    record {
      length_same = new_length;
      labels = flat.labels;
      keeps = keeps_coarser old new kept.0;
      takes = keeps_coarser other new takes;
      least = λ z above_old above_other.
          let other_kept : KeepsLinks other z = coarser_keeps other z other_labels above_other in
          keeps_coarser new z (flat.least z
          ((u.same z).1 (
            coarser_keeps old z old_labels above_old,
            λ p lt. other_kept.each p (omega (arith, lt, other_length, x_is)),
          )));
      unchanged = λ is. absurd (cc);
      changed = λ is back. apart
          (record {
            each = λ p lt. back.each p (slice_index other p)
                (omega (arith, lt, new_length, other_length))
                (omega (arith, other_labels.within p lt, new_length, other_length))
                (takes.each p lt);
          });
    }
