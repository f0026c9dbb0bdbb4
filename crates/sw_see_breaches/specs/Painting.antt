-- Colours of a terminal.
use Rattle.std.specs.Prelude.{ℕ, List, [], ◌∷◌, ◌++◌, codes}
use Rattle.sw_see_breaches.specs.declared.painting.Paint.{Paint}
use Rattle.sw_see_breaches.specs.declared.painting.Paint.TheVariants.{Plain, Colored}

-- the byte with which an escape sequence begins
abbrev pub escape : List ℕ
escape = 27 ∷ []

-- a text between the sequence that sets a colour and the one that sets none
unfoldable pub painted : Paint → List ℕ → List ℕ → List ℕ
painted Plain color text = text
painted Colored color text = escape ++ (codes "[" ++ (color ++ (codes "m" ++ (text ++ (escape
    ++ codes "[0m")))))
