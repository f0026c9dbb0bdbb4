-- What may stand between tokens: blanks and comments. Comments between `/*` and `*/` nest.
use Rattle.std.specs.Prelude.{ℕ, suc, ◌+◌, ◌-◌, ◌==◌, Bool, false, ◌&&◌, not, IsTrue, if◌then◌else◌}
use Rattle.std.specs.Prelude.{List, [], ◌∷◌, Option, Some, None, option_map}
use Rattle.std.specs.Bool.{IsFalse}
use Rattle.std.specs.List.{list_all}
use Rattle.sw_scan.specs.Classes.{is_blank}
use Rattle.sw_scan.specs.Prefixes.{BeginsWithout}

-- the two bytes that open a comment, `/*`
abbrev pub opens : ℕ → ℕ → Bool
opens a b = a == 47 && b == 42

-- the two bytes that close a comment, `*/`
abbrev pub closes : ℕ → ℕ → Bool
closes a b = a == 42 && b == 47

-- `IsComment depth bytes`: the bytes are the rest of a comment from after its `/*` to its end,
-- where `depth` more comments inside it are open.
pub data IsComment : ℕ → List ℕ → Type 0 where
  last : IsComment 0 (42 ∷ 47 ∷ [])
  closing : (depth : ℕ) (rest : List ℕ) → IsComment depth rest
      → IsComment (suc depth) (42 ∷ 47 ∷ rest)
  opening : (depth : ℕ) (rest : List ℕ) → IsComment (suc depth) rest
      → IsComment depth (47 ∷ 42 ∷ rest)
  inside : (depth a b : ℕ) (rest : List ℕ) → IsFalse (opens a b) → IsFalse (closes a b)
      → IsComment depth (b ∷ rest) → IsComment depth (a ∷ b ∷ rest)

-- a byte of a line, before its line feed
abbrev pub is_in_line : ℕ → Bool
is_in_line byte = not (byte == 10)

-- `IsGap piece after`: `piece` may stand between tokens where `after` follows, and belongs to none.
pub data IsGap : List ℕ → List ℕ → Type 0 where
  blank : (byte : ℕ) (after : List ℕ) → IsTrue (is_blank byte) → IsGap (byte ∷ []) after
  -- from `//` up to a line feed or the end
  line : (text after : List ℕ) → IsTrue (list_all is_in_line text)
      → BeginsWithout is_in_line after → IsGap (47 ∷ 47 ∷ text) after
  -- from `/*` to the `*/` that closes it
  block : (comment after : List ℕ) → IsComment 0 comment → IsGap (47 ∷ 42 ∷ comment) after

-- whether bytes begin with `//`, or with `/*`
abbrev pub begins_line_comment : List ℕ → Bool
begins_line_comment (a ∷ b ∷ _) = a == 47 && b == 47
begins_line_comment _ = false

abbrev pub begins_block_comment : List ℕ → Bool
begins_block_comment (a ∷ b ∷ _) = opens a b
begins_block_comment _ = false

-- some more bytes, if there is a length
abbrev pub further : ℕ → Option ℕ → Option ℕ
further n length = option_map (λ m. n + m) length

-- the length of the rest of a comment after its `/*`, where `depth` more comments are open
unfoldable pub comment_len : ℕ → List ℕ → Option ℕ
comment_len depth [] = None
comment_len depth (a ∷ []) = None
comment_len depth (a ∷ b ∷ rest) =
    if closes a b then (if depth == 0 then Some 2 else further 2 (comment_len (depth - 1) rest))
    else (if opens a b then further 2 (comment_len (suc depth) rest)
    else further 1 (comment_len depth (b ∷ rest)))
