-- The words of a node: how many it has, and where its entries lie. A node is a range of words of one table, and its name is the index of
-- the first, its version. Its second says which keys it covers. Forms are numbers: 1 to 4 have children, at most 4, 16, 48, 256, and 5 to
-- 8 have values, at most as many; 0 is none.
use Rattle.std.specs.Prelude.{ℕ, ◌+◌, ◌-◌, ◌*◌, ◌/◌, ◌%◌, ◌^◌, ◌==◌, Bool, false, ltb, leb, ◌&&◌, if◌then◌else◌}

-- how many words a node of a form has
unfoldable pub width : ℕ → ℕ
width form =
    if form == 1 then 12 else (if form == 2 then 40 else (if form == 3 then 112 else (if form == 4 then 520 else
    (if form == 5 then 8 else (if form == 6 then 24 else (if form == 7 then 64 else (if form == 8 then 264 else 0)))))))

-- how many entries it has room for
abbrev pub room : ℕ → ℕ
room form =
    if form == 1 then 4 else (if form == 2 then 16 else (if form == 3 then 48 else (if form == 4 then 256 else
    (if form == 5 then 4 else (if form == 6 then 16 else (if form == 7 then 48 else (if form == 8 then 256 else 0)))))))

-- the word of the first entry
abbrev pub entries : ℕ → ℕ
entries form =
    if form == 1 then 4 else (if form == 2 then 6 else (if form == 3 then 10 else (if form == 4 then 8 else
    (if form == 5 then 3 else (if form == 6 then 6 else (if form == 7 then 10 else 8))))))

-- whether word j is the first of one of n entries of two words, of which the first begins at word i
abbrev pub links : ℕ → ℕ → ℕ → Bool
links i n j = (leb i j && ltb j (i + 2 * n)) && ((j - i) % 2 == 0)

-- word j of a node of a form with children is a child word where it is the first of an entry
unfoldable pub is_link : ℕ → ℕ → Bool
is_link form j =
    if form == 1 then links 4 4 j else (if form == 2 then links 6 16 j else (if form == 3 then links 10 48 j else (if form == 4 then links 8 256 j else false)))

-- A child word: the tag of what it is (a form, or 9, a lone leaf; 0 is no child), a level, and the node that it names
abbrev pub child_of : ℕ → ℕ → ℕ → ℕ
child_of tag level node = node * 256 + level * 16 + tag

abbrev pub tag_of : ℕ → ℕ
tag_of child = child % 16

abbrev pub level_of : ℕ → ℕ
level_of child = child / 16 % 8

abbrev pub node_of : ℕ → ℕ
node_of child = child / 256

-- the child word of a lone leaf: the key without its first byte
abbrev pub leaf_of : ℕ → ℕ
leaf_of key = key % 2 ^ 56 * 256 + 9

-- the key's first bytes, as many as the level, as a number
abbrev pub prefix_of : ℕ → ℕ → ℕ
prefix_of key level = key / 2 ^ (64 - 8 * level)

-- the byte of a key that a node of this level tells apart
abbrev pub byte_at : ℕ → ℕ → ℕ
byte_at key level = key / 2 ^ (56 - 8 * level) % 256

-- the word that says which keys a node covers, and of which form it is: the first bytes of one of them, the others 0, and in the last byte
-- the level and 8 times the form. A node that is free has 0
abbrev pub where_of : ℕ → ℕ → ℕ → ℕ
where_of form level key = prefix_of key level * 2 ^ (64 - 8 * level) + 8 * form + level
