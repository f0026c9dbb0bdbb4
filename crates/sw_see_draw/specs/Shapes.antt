-- Lines, circles, rectangles and texts in SVG. What follows the numbers are more attributes.
use Rattle.std.specs.Prelude.{ℕ, List, ◌++◌, codes}
use Rattle.std.specs.Fmt.{decimal}
use Rattle.sw_see_draw.specs.Markup.{escaped}

-- a line between two points
unfoldable pub line : ℕ → ℕ → ℕ → ℕ → List ℕ → List ℕ
line x1 y1 x2 y2 more =
    codes "<line x1=\"" ++ (decimal x1 ++ (codes "\" y1=\"" ++ (decimal y1
    ++ (codes "\" x2=\"" ++ (decimal x2 ++ (codes "\" y2=\"" ++ (decimal y2
    ++ (codes "\" " ++ (more ++ codes "/>\n")))))))))

-- a circle around a point
unfoldable pub circle : ℕ → ℕ → ℕ → List ℕ → List ℕ
circle x y radius more =
    codes "<circle cx=\"" ++ (decimal x ++ (codes "\" cy=\"" ++ (decimal y
    ++ (codes "\" r=\"" ++ (decimal radius ++ (codes "\" " ++ (more ++ codes "/>\n")))))))

-- a rectangle of a colour, by its upper left corner, its width and its height
unfoldable pub rect : ℕ → ℕ → ℕ → ℕ → List ℕ → List ℕ
rect x y width height color =
    codes "<rect x=\"" ++ (decimal x ++ (codes "\" y=\"" ++ (decimal y
    ++ (codes "\" width=\"" ++ (decimal width ++ (codes "\" height=\"" ++ (decimal height
    ++ (codes "\" fill=\"" ++ (color ++ codes "\"/>\n")))))))))

-- a text whose line begins at a point
unfoldable pub label : ℕ → ℕ → List ℕ → List ℕ → List ℕ
label x y more text =
    codes "<text x=\"" ++ (decimal x ++ (codes "\" y=\"" ++ (decimal y
    ++ (codes "\" " ++ (more ++ (codes ">" ++ (escaped text ++ codes "</text>\n")))))))

-- what makes a text small, and turns it around a point
unfoldable pub turned : ℕ → ℕ → List ℕ
turned x y = codes "font-size=\"9\" transform=\"rotate(45 "
    ++ (decimal x ++ (codes " " ++ (decimal y ++ codes ")\"")))

-- a small text that runs down to the right from a point
abbrev pub slanted : ℕ → ℕ → List ℕ → List ℕ
slanted x y text = label x y (turned x y) text
