-- What each further item keeps holds after any further items.
use Rattle.std.proofs.Common.{ℕ, List, [], ◌∷◌, ◌++◌, sym, subst, append_assoc, append-nil}

pub further : (Q : List ℕ → Type 0)
    → ((items : List ℕ) (item : ℕ) → Q items → Q (items ++ item ∷ []))
    → (items more : List ℕ) → Q items → Q (items ++ more)
further Q keeps items [] q = subst Q (sym (append-nil items)) q
further Q keeps items (item ∷ more) q =
    subst Q (append_assoc items (item ∷ []) more)
    (further Q keeps (items ++ item ∷ []) more (keeps items item q))
