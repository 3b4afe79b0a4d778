-- The shapes of a picture, as elements of SVG. Numbers and fixed words are all that they hold, so nothing needs an
-- escape; names that are put between them have none of the characters that do.
use Rattle.std.specs.Prelude.{ℕ, ◌+◌, ◌*◌, ◌/◌, List, [], ◌∷◌, ◌++◌, codes, decimal}
use Rattle.std.specs.List.{concat}
use Rattle.svc_shapes.specs.declared.sheet.TheConstants.{TOP}

-- ---- marks: each kind is made once, about the place where it is used

-- a ring: a load
unfoldable pub ring : (size : ℕ) → List ℕ
ring size = concat (codes "<circle r='" ∷ decimal size ∷ codes "' fill='#fff' stroke='#111' stroke-width='2'/>" ∷ [])

-- a full square: a store
unfoldable pub square : (size : ℕ) → List ℕ
square size =
    concat (codes "<rect x='-" ∷ decimal size ∷ codes "' y='-" ∷ decimal size ∷ codes "' width='" ∷ decimal (2 * size)
    ∷ codes "' height='" ∷ decimal (2 * size) ∷ codes "' fill='#111'/>" ∷ [])

-- a diamond: an output word
unfoldable pub diamond : (half : ℕ) → List ℕ
diamond half =
    concat (codes "<path d='M-" ∷ decimal half ∷ codes " 0L0 -" ∷ decimal half ∷ codes "L" ∷ decimal half
    ∷ codes " 0L0 " ∷ decimal half ∷ codes "Z' fill='#ffe04a' stroke='#111' stroke-width='2'/>" ∷ [])

-- a cross: a line that is let go
unfoldable pub cross : (half : ℕ) → List ℕ
cross half =
    concat (codes "<path d='M-" ∷ decimal half ∷ codes " -" ∷ decimal half ∷ codes "L" ∷ decimal half ∷ codes " "
    ∷ decimal half ∷ codes "M-" ∷ decimal half ∷ codes " " ∷ decimal half ∷ codes "L" ∷ decimal half ∷ codes " -"
    ∷ decimal half ∷ codes "' stroke='#111' stroke-width='3'/>" ∷ [])

-- the letter of a supplier, in a mark that has room for it
unfoldable pub letter_within : (size : ℕ) → (fill letter : List ℕ) → List ℕ
letter_within size fill letter =
    concat (codes "<text y='" ∷ decimal ((size + 2) * 9 / 25) ∷ codes "' font-size='" ∷ decimal (size + 2)
    ∷ codes "' font-weight='bold' text-anchor='middle' fill='" ∷ fill ∷ codes "'>" ∷ letter ∷ codes "</text>" ∷ [])

-- and above a smaller one
unfoldable pub letter_above : (size : ℕ) → (letter : List ℕ) → List ℕ
letter_above size letter =
    concat (codes "<text y='-" ∷ decimal (size + 2)
    ∷ codes "' font-size='9' font-weight='bold' text-anchor='middle'>" ∷ letter ∷ codes "</text>" ∷ [])

-- the beginning of a kind of mark, and its end
unfoldable pub kind_open : (name letter : List ℕ) → List ℕ
kind_open name letter = concat (codes "<g id='" ∷ name ∷ letter ∷ codes "'>" ∷ [])

unfoldable pub kind_close : List ℕ
kind_close = codes "</g>\n"

-- ---- marks: elements that stay open for a title

-- a mark of a kind
unfoldable pub mark_at : (x y : ℕ) → (name letter : List ℕ) → List ℕ
mark_at x y name letter =
    concat (codes "<use href='#" ∷ name ∷ letter ∷ codes "' x='" ∷ decimal x ∷ codes "' y='" ∷ decimal y ∷ codes "'>"
    ∷ [])

-- a broken line across all lanes, down to where they end: a commit
unfoldable pub commit_line : (x bottom : ℕ) → List ℕ
commit_line x bottom =
    concat (codes "<path d='M" ∷ decimal x ∷ codes " " ∷ decimal TOP ∷ codes "V" ∷ decimal bottom
    ∷ codes "' fill='none' stroke='#2e7d32' stroke-width='2' stroke-dasharray='6 4'>" ∷ [])

-- an arrow from one place to another: thin where a version goes to its reader, bold where a store squashes one
unfoldable pub thin_arrow : (x y right down : ℕ) → List ℕ
thin_arrow x y right down =
    concat (codes "<path d='M" ∷ decimal x ∷ codes " " ∷ decimal y ∷ codes "L" ∷ decimal right ∷ codes " "
    ∷ decimal down
    ∷ codes "' fill='none' stroke='#14508c' stroke-width='2' marker-end='url(#thin)'>" ∷ [])

unfoldable pub bold_arrow : (x y right down : ℕ) → List ℕ
bold_arrow x y right down =
    concat (codes "<path d='M" ∷ decimal x ∷ codes " " ∷ decimal y ∷ codes "L" ∷ decimal right ∷ codes " "
    ∷ decimal down
    ∷ codes "' fill='none' stroke='#b01010' stroke-width='4' marker-end='url(#bold)'>" ∷ [])

-- the end of such an element
unfoldable pub close : (element : List ℕ) → List ℕ
close element = concat (codes "</" ∷ element ∷ codes ">\n" ∷ [])

-- the beginning of the title that shows at the pointer
unfoldable pub title_open : (place : ℕ) → List ℕ
title_open place = concat (codes "<title>entry " ∷ decimal place ∷ codes ": " ∷ [])

-- ---- whole elements

-- a box, which stays open for a title: a bar
unfoldable pub bar_box : (x y width height : ℕ) → (fill : List ℕ) → List ℕ
bar_box x y width height fill =
    concat (codes "<rect x='" ∷ decimal x ∷ codes "' y='" ∷ decimal y ∷ codes "' width='" ∷ decimal width
    ∷ codes "' height='" ∷ decimal height
    ∷ codes "' rx='3' fill='" ∷ fill ∷ codes "' stroke='#333'>" ∷ [])

-- the beginning of a bar's title: its task, and the address where that began
unfoldable pub box_title : (number entry : ℕ) → List ℕ
box_title number entry =
    concat (codes "<title>task " ∷ decimal number ∷ codes " at address " ∷ decimal entry ∷ [])

-- the rest of it: what became of the task
unfoldable pub box_fate : (first : ℕ) → (fate : List ℕ) → (turns : ℕ) → List ℕ
box_fate first fate turns =
    concat (codes ", begun by entry " ∷ decimal first ∷ codes ": " ∷ fate ∷ codes "; turns: " ∷ decimal turns ∷ [])

-- words
unfoldable pub label_open : (x y : ℕ) → (style : List ℕ) → List ℕ
label_open x y style =
    concat (codes "<text x='" ∷ decimal x ∷ codes "' y='" ∷ decimal y ∷ codes "' " ∷ style ∷ codes ">" ∷ [])

unfoldable pub label_close : List ℕ
label_close = codes "</text>\n"

unfoldable pub label : (x y : ℕ) → (style words : List ℕ) → List ℕ
label x y style words = label_open x y style ++ words ++ label_close

-- words between these have a white rim
unfoldable pub rim_open : List ℕ
rim_open = codes "<g paint-order='stroke' stroke='#fff' stroke-width='4' stroke-linejoin='round'>\n"

unfoldable pub rim_close : List ℕ
rim_close = codes "</g>\n"

-- ---- things that are joined

-- a group of elements that share these attributes
unfoldable pub group_open : (attributes : List ℕ) → List ℕ
group_open attributes = concat (codes "<g" ∷ attributes ∷ codes ">\n" ∷ [])

unfoldable pub group_close : List ℕ
group_close = codes "</g>\n"

-- a box and a line that have these, and stay open for a title
unfoldable pub plain_box : (x y width height : ℕ) → List ℕ
plain_box x y width height =
    concat (codes "<rect x='" ∷ decimal x ∷ codes "' y='" ∷ decimal y ∷ codes "' width='" ∷ decimal width
    ∷ codes "' height='" ∷ decimal height ∷ codes "'>" ∷ [])

unfoldable pub plain_line : (x y right down : ℕ) → List ℕ
plain_line x y right down =
    concat (codes "<path d='M" ∷ decimal x ∷ codes " " ∷ decimal y ∷ codes "L" ∷ decimal right ∷ codes " "
    ∷ decimal down ∷ codes "'>" ∷ [])

-- how many things are joined, of which entries
unfoldable pub joined_title : (count : ℕ) → (name : List ℕ) → (first last : ℕ) → List ℕ
joined_title count name first last =
    concat (codes "<title>" ∷ decimal count ∷ codes " " ∷ name ∷ codes ", entries " ∷ decimal first ∷ codes " to "
    ∷ decimal last ∷ codes "</title>" ∷ [])

-- the words below the lanes of a picture that has such things
unfoldable pub joined_words : (bottom : ℕ) → List ℕ
joined_words bottom =
    concat (codes "<text x='835' y='" ∷ decimal (bottom + 46)
    ∷ codes
    "' text-anchor='middle'>a mark stands for all of its kind near it; point at it for how many</text>\n" ∷ [])

-- ---- the legend

-- what is shown
unfoldable pub headline : (count total from units : ℕ) → List ℕ
headline count total from units =
    concat (codes "<text x='90' y='30' font-size='18' font-weight='bold'>" ∷ decimal count ∷ codes " of "
    ∷ decimal total
    ∷ codes " entries, from entry " ∷ decimal from ∷ codes "; units: " ∷ decimal units ∷ codes "</text>\n" ∷ [])

-- a sample of a fate
unfoldable pub fate_sample : (x : ℕ) → (fill name : List ℕ) → List ℕ
fate_sample x fill name =
    concat (codes "<rect x='" ∷ decimal x ∷ codes "' y='48' width='32' height='18' fill='" ∷ fill
    ∷ codes "' stroke='#111'/><text x='"
    ∷ decimal (x + 40) ∷ codes "' y='62'>" ∷ name ∷ codes "</text>\n" ∷ [])

-- a sample of a mark, and what it is
unfoldable pub mark_sample : (x y : ℕ) → (name letter : List ℕ) → (after : ℕ) → (words : List ℕ) → List ℕ
mark_sample x y name letter after words =
    concat (codes "<use href='#" ∷ name ∷ letter ∷ codes "' x='" ∷ decimal x ∷ codes "' y='" ∷ decimal y
    ∷ codes "'/><text x='" ∷ decimal after ∷ codes "' y='" ∷ decimal (y + 5) ∷ codes "'>" ∷ words ∷ codes "</text>\n"
    ∷ [])

-- the heads of arrows, which end at the rim of a mark of this size
unfoldable pub arrow_heads : (size : ℕ) → List ℕ
arrow_heads size =
    concat (codes "<marker id='thin' markerWidth='12' markerHeight='10' refX='" ∷ decimal (11 + size)
    ∷ codes "' refY='5' orient='auto' markerUnits='userSpaceOnUse'><path d='M0 0L11 5L0 10Z' fill='#14508c'/></marker>"
    ∷ codes "<marker id='bold' markerWidth='18' markerHeight='16' refX='" ∷ decimal (18 + size)
    ∷ codes
    "' refY='8' orient='auto' markerUnits='userSpaceOnUse'><path d='M0 0L17 8L0 16Z' fill='#b01010'/></marker>\n"
    ∷ [])

-- the beginning and the end of what is made once
unfoldable pub parts_open : List ℕ
parts_open = codes "<defs>\n"

unfoldable pub parts_close : List ℕ
parts_close = codes "</defs>\n"

-- ---- lanes and the axis

-- a lane, with its name before it
unfoldable pub lane : (number top height : ℕ) → (fill : List ℕ) → (middle : ℕ) → List ℕ
lane number top height fill middle =
    concat (codes "<rect x='90' y='" ∷ decimal top ∷ codes "' width='1490' height='" ∷ decimal height ∷ codes "' fill='"
    ∷ fill
    ∷ codes "'/><text x='20' y='" ∷ decimal middle ∷ codes "'>unit " ∷ decimal number ∷ codes "</text>\n" ∷ [])

-- an entry's number, below its place, where the lanes end
unfoldable pub tick : (x bottom place : ℕ) → List ℕ
tick x bottom place =
    concat (codes "<path d='M" ∷ decimal x ∷ codes " " ∷ decimal bottom ∷ codes "V" ∷ decimal (bottom + 7)
    ∷ codes "' stroke='#111'/><text x='" ∷ decimal x ∷ codes "' y='" ∷ decimal (bottom + 22)
    ∷ codes "' text-anchor='middle'>" ∷ decimal place ∷ codes "</text>\n" ∷ [])

-- ---- what every picture has

-- its size, by where its lanes end
unfoldable pub opening : (bottom : ℕ) → List ℕ
opening bottom =
    concat
    (codes "<?xml version='1.0' encoding='UTF-8'?>\n<svg xmlns='http://www.w3.org/2000/svg' width='1600' height='"
    ∷ decimal (bottom + 62) ∷ codes "' viewBox='0 0 1600 " ∷ decimal (bottom + 62)
    ∷ codes "' font-family='Helvetica, Arial, sans-serif' font-size='14' fill='#111'>\n<defs>\n" ∷ [])

-- a hatching of 8 by 8
unfoldable pub hatching : (name turn paper lines : List ℕ) → List ℕ
hatching name turn paper lines =
    concat (codes "<pattern id='" ∷ name ∷ codes "' width='8' height='8' patternUnits='userSpaceOnUse'" ∷ turn
    ∷ codes "><rect width='8' height='8' fill='" ∷ paper ∷ codes "'/>" ∷ lines ∷ codes "</pattern>\n" ∷ [])

-- the paper, after the hatchings
unfoldable pub paper_text : (bottom : ℕ) → List ℕ
paper_text bottom =
    concat (codes "</defs>\n<rect width='1600' height='" ∷ decimal (bottom + 62) ∷ codes "' fill='#fff'/>\n" ∷ [])

-- samples of the lines that marks have
unfoldable pub commit_sample : List ℕ
commit_sample = codes "<path d='M550 80V100' stroke='#2e7d32' stroke-width='2' stroke-dasharray='6 4'/><text x='562' y='95'>commit</text>\n"

unfoldable pub thin_sample : List ℕ
thin_sample = codes "<path d='M670 90H735' stroke='#14508c' stroke-width='2' marker-end='url(#thin)'/>"

unfoldable pub bold_sample : List ℕ
bold_sample = codes "<path d='M1090 90H1160' stroke='#b01010' stroke-width='4' marker-end='url(#bold)'/>"

-- the end of a picture
unfoldable pub closing : List ℕ
closing = codes "</svg>\n"

-- the rim of the lanes, as high as they are together
unfoldable pub border : (height : ℕ) → List ℕ
border height =
    concat (codes "<rect x='90' y='118' width='1490' height='" ∷ decimal height
    ∷ codes "' fill='none' stroke='#888'/>\n" ∷ [])

-- the words below the axis: what a bar's words are, and what the numbers are
unfoldable pub bar_words : (bottom : ℕ) → List ℕ
bar_words bottom =
    concat (codes "<text x='90' y='" ∷ decimal (bottom + 46)
    ∷ codes "'>in a bar: the number of its task @ the address where that began</text>\n" ∷ [])

unfoldable pub axis_words : (bottom : ℕ) → List ℕ
axis_words bottom =
    concat (codes "<text x='1580' y='" ∷ decimal (bottom + 46)
    ∷ codes "' text-anchor='end'>entry of the trace, counted from 0</text>\n" ∷ [])
