-- How many bytes are written when some are left.
use Rattle.std.proofs.Common.{◌≡◌, ℕ, ◌+◌, ◌≤◌, List, [], ◌∷◌, ◌++◌, length, take, drop, Option}
use Rattle.std.proofs.Common.{Some, None, option_map, refl, sym, ap, ◌∙◌, subst, arith}
use Rattle.std.proofs.Common.{append_assoc, append-nil, length-drop}
use Rattle.std.proofs.Math.Seq.{take-add, drop-drop, take-length}
use Rattle.sw_check_parts.specs.Written.{Appended, IsPrefixWritten}

-- the rest is left of the bytes, and what comes before it was written
pub record IsPartWritten (bytes rest : List ℕ) (before after : Option (List ℕ)) : Type 0 where
  pub n : ℕ
  pub within : n ≤ length bytes
  pub left : rest ≡ drop n bytes
  pub appended : Appended (take n bytes) before after

-- nothing is written yet
pub part_begins : (bytes : List ℕ) (before : Option (List ℕ))
    → IsPartWritten bytes bytes before before
part_begins bytes before = record {
  n = 0;
  within = omega arith;
  left = nothing_dropped bytes;
  appended = begun bytes before;
} where
  nothing_dropped : (bytes : List ℕ) → bytes ≡ drop 0 bytes
  nothing_dropped [] = refl
  nothing_dropped (byte ∷ bytes) = refl

  begun : (bytes : List ℕ) (before : Option (List ℕ)) → Appended (take 0 bytes) before before
  begun bytes None = refl
  begun bytes (Some written) = ap Some (sym (append-nil written))

joined : (xs ys : List ℕ) (before middle after : Option (List ℕ)) → Appended xs before middle
    → Appended ys middle after → Appended (xs ++ ys) before after
joined xs ys None middle after p q = cc
joined xs ys (Some bytes) middle after p q = q ∙ ap (option_map (λ written. written ++ ys)) p
    ∙ ap Some (append_assoc bytes xs ys)

-- a put wrote the first n bytes of the rest
pub part_goes_on : {bytes rest : List ℕ} {before middle after : Option (List ℕ)} (n : ℕ)
    → IsPartWritten bytes rest before middle → n ≤ length rest → Appended (take n rest) middle after
    → IsPartWritten bytes (drop n rest) before after
part_goes_on {bytes} {rest} {before} {middle} {after} n part le put = record {
  n = part.n + n;
  within = omega (arith, ap length part.left, length-drop part.n bytes, part.within);
  left = ap (drop n) part.left ∙ drop-drop n part.n bytes;
  appended = rw (take-add part.n n bytes, ← part.left)
      (joined _ _ before middle after part.appended put);
}

-- a prefix is written whenever a part is
pub part_is_prefix : {bytes rest : List ℕ} {before after : Option (List ℕ)}
    → IsPartWritten bytes rest before after → IsPrefixWritten bytes before after
part_is_prefix part = record { n = part.n; within = part.within; appended = part.appended }

-- nothing is left
pub part_ends : {bytes rest : List ℕ} {before after : Option (List ℕ)}
    → IsPartWritten bytes rest before after → length rest ≡ 0 → Appended bytes before after
part_ends {bytes} {rest} {before} {after} part none =
    let whole : part.n ≡ length bytes =
    omega (arith, ap length part.left, length-drop part.n bytes, part.within) in
    let all : take part.n bytes ≡ bytes = ap (λ n. take n bytes) whole ∙ take-length bytes in
    subst (λ prefix. Appended prefix before after) all part.appended
