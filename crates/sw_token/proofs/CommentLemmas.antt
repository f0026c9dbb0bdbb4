-- Comments, as the definition says them and as the function finds them.
use Rattle.std.proofs.Common.{◌≡◌, ◌≢◌, ℕ, zero, suc, ◌+◌, ◌-◌, ◌<◌, ◌≤◌, true, false, eqb, List}
use Rattle.std.proofs.Common.{[], ◌∷◌, ◌++◌, length, take, drop, get_or, Option, Some, None, refl}
use Rattle.std.proofs.Common.{sym, ap, ◌∙◌, inl, inr, arith, drop-cons, length-append, length-drop}
use Rattle.std.proofs.Common.{◌&&◌}
use Rattle.std.proofs.lemmas.Bool.Decides.{nat_tests}
use Rattle.std.proofs.lemmas.List.{take-append-drop}
use Rattle.sw_scan.proofs.Prefixes.{chosen}
use Rattle.sw_token.specs.Comments.{opens, closes, IsComment, further, comment_len}
use Rattle.sw_token.specs.Comments as comments

further-further : (n m : ℕ) (length : Option ℕ)
    → further n (further m length) ≡ further (n + m) length
further-further n m None = refl
further-further n m (Some k) = ap Some (omega arith)

-- two more bytes
drop_two : (bytes : List ℕ) (at : ℕ) → at + 1 < length bytes
    → drop at bytes ≡ get_or bytes at 0 ∷ get_or bytes (at + 1) 0 ∷ drop (at + 2) bytes
drop_two bytes at inside =
    let first : at < length bytes = omega arith in
    let one = drop-cons bytes at 0 in
    let two = drop-cons bytes (at + 1) 0 in
    let here : suc at ≡ at + 1 = omega arith in
    let there : suc (at + 1) ≡ at + 2 = omega arith in
    rw (one, here, two, there) refl

-- the function at two bytes

comment_len-closing : (depth a b : ℕ) (rest : List ℕ) → closes a b ≡ true → depth ≢ 0
    → comment_len depth (a ∷ b ∷ rest) ≡ further 2 (comment_len (depth - 1) rest)
unfolding comment_len
comment_len-closing depth a b rest c deep =
    let more : eqb depth 0 ≡ false = grind (arith, nat_tests) in
    rw (c, more) refl

comment_len-last : (a b : ℕ) (rest : List ℕ) → closes a b ≡ true
    → comment_len 0 (a ∷ b ∷ rest) ≡ Some 2
unfolding comment_len
comment_len-last a b rest c = rw c refl

comment_len-opening : (depth a b : ℕ) (rest : List ℕ) → closes a b ≡ false → opens a b ≡ true
    → comment_len depth (a ∷ b ∷ rest) ≡ further 2 (comment_len (suc depth) rest)
unfolding comment_len
comment_len-opening depth a b rest c o = rw (c, o) refl

comment_len-inside : (depth a b : ℕ) (rest : List ℕ) → closes a b ≡ false → opens a b ≡ false
    → comment_len depth (a ∷ b ∷ rest) ≡ further 1 (comment_len depth (b ∷ rest))
unfolding comment_len
comment_len-inside depth a b rest c o = rw (c, o) refl

-- the turns of the loop, which has come to the offset `at`

module _ (bytes : List ℕ) (at : ℕ) (inside : at + 1 < length bytes) where
  abbrev first : ℕ
  first = get_or bytes at 0

  abbrev second : ℕ
  second = get_or bytes (at + 1) 0

  pub turn_last : closes first second ≡ true → comment_len 0 (drop at bytes) ≡ Some 2
  turn_last c =
      rw (drop_two bytes at inside) (comment_len-last first second (drop (at + 2) bytes) c)

  pub turn_closing : (depth : ℕ) → closes first second ≡ true → depth ≢ 0
      → further at (comment_len depth (drop at bytes))
      ≡ further (at + 2) (comment_len (depth - 1) (drop (at + 2) bytes))
  turn_closing depth c deep =
      ap (λ xs. further at (comment_len depth xs)) (drop_two bytes at inside)
      ∙ (ap (further at) (comment_len-closing depth first second (drop (at + 2) bytes) c deep)
      ∙ further-further at 2 (comment_len (depth - 1) (drop (at + 2) bytes)))

  pub turn_opening : (depth : ℕ) → closes first second ≡ false → opens first second ≡ true
      → further at (comment_len depth (drop at bytes))
      ≡ further (at + 2) (comment_len (depth + 1) (drop (at + 2) bytes))
  turn_opening depth c o =
      let more : suc depth ≡ depth + 1 = omega arith in
      ap (λ xs. further at (comment_len depth xs)) (drop_two bytes at inside)
      ∙ (ap (further at) (comment_len-opening depth first second (drop (at + 2) bytes) c o)
      ∙ (further-further at 2 (comment_len (suc depth) (drop (at + 2) bytes))
      ∙ ap (λ d. further (at + 2) (comment_len d (drop (at + 2) bytes))) more))

  pub turn_inside : (depth : ℕ) → closes first second ≡ false → opens first second ≡ false
      → further at (comment_len depth (drop at bytes))
      ≡ further (at + 1) (comment_len depth (drop (at + 1) bytes))
  turn_inside depth c o =
      let there : suc (at + 1) ≡ at + 2 = omega arith in
      let next : second ∷ drop (at + 2) bytes ≡ drop (at + 1) bytes =
      rw (drop-cons bytes (at + 1) 0, there) refl in
      ap (λ xs. further at (comment_len depth xs)) (drop_two bytes at inside)
      ∙ (ap (further at) (comment_len-inside depth first second (drop (at + 2) bytes) c o)
      ∙ (further-further at 1 (comment_len depth (second ∷ drop (at + 2) bytes))
      ∙ ap (λ xs. further (at + 1) (comment_len depth xs)) next))

-- fewer than two bytes are left
pub turn_end : (bytes : List ℕ) (at depth : ℕ) → length bytes ≤ at + 1
    → further at (comment_len depth (drop at bytes)) ≡ None
unfolding comment_len
turn_end bytes at depth past = go (drop at bytes) (omega (arith, length-drop at bytes)) where
  go : (rest : List ℕ) → length rest ≤ 1 → further at (comment_len depth rest) ≡ None
  go [] few = refl
  go (a ∷ []) few = refl
  go (a ∷ b ∷ rest) few = absurd (omega arith)

-- what the definition says is found

pub comment_len-IsComment : (depth : ℕ) (comment : List ℕ) → IsComment depth comment
    → (after : List ℕ) → comment_len depth (comment ++ after) ≡ Some (length comment)
comment_len-IsComment _ _ comments.last after = comment_len-last 42 47 after refl
comment_len-IsComment _ _ (comments.closing depth rest is) after =
    let deep : suc depth ≢ 0 = omega arith in
    let less : suc depth - 1 ≡ depth = omega arith in
    comment_len-closing (suc depth) 42 47 (rest ++ after) refl deep
    ∙ (ap (λ d. further 2 (comment_len d (rest ++ after))) less
    ∙ (ap (further 2) (comment_len-IsComment depth rest is after) ∙ ap Some (omega arith)))
comment_len-IsComment _ _ (comments.opening depth rest is) after =
    comment_len-opening depth 47 42 (rest ++ after) refl refl
    ∙ (ap (further 2) (comment_len-IsComment (suc depth) rest is after) ∙ ap Some (omega arith))
comment_len-IsComment _ _ (comments.inside depth a b rest o c is) after =
    comment_len-inside depth a b (rest ++ after) c o
    ∙ (ap (further 1) (comment_len-IsComment depth (b ∷ rest) is after) ∙ ap Some (omega arith))

-- what is found the definition says

further-some : (n k : ℕ) (length : Option ℕ) → further n length ≡ Some k
    → (m : ℕ) × (length ≡ Some m) × (k ≡ n + m)
further-some n k None e = cc
further-some n k (Some m) e = (m, refl, cc)

both_equal : (a b x y : ℕ) → (eqb a x && eqb b y) ≡ true → (a ≡ x) × (b ≡ y)
both_equal a b x y e = (grind (arith, nat_tests), grind (arith, nat_tests))

-- no comment is empty
nonempty : (depth : ℕ) (comment : List ℕ) → IsComment depth comment → 0 < length comment
nonempty _ _ comments.last = omega arith
nonempty _ _ (comments.closing depth rest is) = omega arith
nonempty _ _ (comments.opening depth rest is) = omega arith
nonempty _ _ (comments.inside depth a b rest o c is) = omega arith

no_comment : (depth : ℕ) → IsComment depth [] → ⊥
no_comment depth is = omega (arith, nonempty depth [] is)

-- one more byte inside a comment; what follows has some bytes
some_inside : (depth a b : ℕ) (rest : List ℕ) (n m : ℕ) → opens a b ≡ false → closes a b ≡ false
    → n ≡ 1 + m → IsComment depth (take m (b ∷ rest)) → IsComment depth (take n (a ∷ b ∷ rest))
some_inside depth a b rest n zero o c long is = absurd (no_comment depth is)
some_inside depth a b rest n (suc m) o c long is =
    let all : n ≡ suc (suc m) = omega arith in
    rw all (comments.inside depth a b (take m rest) o c is)

pub IsComment-comment_len : (depth : ℕ) (bytes : List ℕ) (n : ℕ) → comment_len depth bytes ≡ Some n
    → IsComment depth (take n bytes)
unfolding comment_len
IsComment-comment_len depth [] n e = cc
IsComment-comment_len depth (a ∷ []) n e = cc
IsComment-comment_len depth (a ∷ b ∷ rest) n e =
    elim (chosen (closes a b) _ _ _ e) [
      | inl c ↦
          let is = both_equal a b 42 47 c.0 in
          elim (chosen (eqb depth 0) _ _ _ c.1) [
            | inl d ↦
                let none : depth ≡ 0 = grind (arith, nat_tests) in
                let two : n ≡ 2 = cc in
                rw (none, two, is.0, is.1) comments.last
            | inr d ↦
                let found = further-some 2 n (comment_len (depth - 1) rest) d.1 in
                let some : depth ≡ suc (depth - 1) = grind (arith, nat_tests) in
                let long : n ≡ suc (suc found.0) = omega (arith, found.2) in
                rw (some, long, is.0, is.1)
                (comments.closing (depth - 1) (take found.0 rest)
                (IsComment-comment_len (depth - 1) rest found.0 found.1))
          ]
      | inr c ↦ elim (chosen (opens a b) _ _ _ c.1) [
        | inl o ↦
            let is = both_equal a b 47 42 o.0 in
            let found = further-some 2 n (comment_len (suc depth) rest) o.1 in
            let long : n ≡ suc (suc found.0) = omega (arith, found.2) in
            rw (long, is.0, is.1)
            (comments.opening depth (take found.0 rest)
            (IsComment-comment_len (suc depth) rest found.0 found.1))
        | inr o ↦
            let found = further-some 1 n (comment_len depth (b ∷ rest)) o.1 in
            let within = IsComment-comment_len depth (b ∷ rest) found.0 found.1 in
            some_inside depth a b rest n found.0 o.0 c.0 found.2 within
      ]
    ]

-- a comment that was found is in the bytes
pub comment_len-within : (bytes : List ℕ) (n : ℕ) → comment_len 0 bytes ≡ Some n → n ≤ length bytes
comment_len-within bytes n e =
    let again =
    comment_len-IsComment 0 (take n bytes) (IsComment-comment_len 0 bytes n e) (drop n bytes) in
    let same : comment_len 0 bytes ≡ Some (length (take n bytes)) = rw take-append-drop at again in
    let long : n ≡ length (take n bytes) = cc in
    omega (
      arith,
      long,
      length-append (take n bytes) (drop n bytes),
      ap length (take-append-drop n bytes),
    )

-- a comment that nothing closes

pub none_closed : (rest : List ℕ) → comment_len 0 rest ≡ None
    → (comment after : List ℕ) → IsComment 0 comment → rest ≢ comment ++ after
none_closed rest none comment after is e =
    let found = comment_len-IsComment 0 comment is after in
    let same = ap (comment_len 0) e in
    cc

pub closes_nothing : (rest : List ℕ)
    → ((comment after : List ℕ) → IsComment 0 comment → rest ≢ comment ++ after)
    → comment_len 0 rest ≡ None
closes_nothing rest none = go (comment_len 0 rest) refl where
  go : (found : Option ℕ) → comment_len 0 rest ≡ found → comment_len 0 rest ≡ None
  go None e = e
  go (Some n) e =
      absurd
      (none (take n rest) (drop n rest) (IsComment-comment_len 0 rest n e)
      (sym (take-append-drop n rest)))

-- a comment ends in `/`
pub comment_ends : (depth : ℕ) (comment : List ℕ) → IsComment depth comment
    → (before : List ℕ) × (comment ≡ before ++ (47 ∷ []))
comment_ends _ _ comments.last = (42 ∷ [], refl)
comment_ends _ _ (comments.closing depth rest is) =
    let ends = comment_ends depth rest is in
    (42 ∷ 47 ∷ ends.0, ap (λ xs. 42 ∷ 47 ∷ xs) ends.1)
comment_ends _ _ (comments.opening depth rest is) =
    let ends = comment_ends (suc depth) rest is in
    (47 ∷ 42 ∷ ends.0, ap (λ xs. 47 ∷ 42 ∷ xs) ends.1)
comment_ends _ _ (comments.inside depth a b rest o c is) =
    let ends = comment_ends depth (b ∷ rest) is in
    (a ∷ ends.0, ap (λ xs. a ∷ xs) ends.1)
