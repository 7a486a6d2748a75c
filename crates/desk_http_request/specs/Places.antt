-- The routes.
use Rattle.std.specs.Prelude.{ℕ, Bool, true, false, List, [], ◌∷◌, length, Option, Some, None, option_map, ◌==◌, ◌&&◌, ◌||◌, nat_le, bytes_eq, codes, if◌then◌else◌}
use Rattle.std.specs.Char.{is_ascii_alphanumeric, is_ascii_digit}
use Rattle.std.specs.List.{list_all, slice_split}
use Rattle.std.specs.Str.Parse.{digits_value}
use Rattle.desk_http_request.specs.declared.wanted.PageFile.{PageFile}
use Rattle.desk_http_request.specs.declared.wanted.PageFile.TheVariants.{Html, Style, Script}

-- the path of a target: what stands before its first `?`
abbrev pub path_of : List ℕ → List ℕ
path_of [] = []
path_of (b ∷ bs) = if b == 63 then [] else b ∷ path_of bs

-- what a path names
pub data Place : Type 0 where
  File : PageFile → Place
  Blocks Signoffs : Place
  Module Set Check Report Sign : List ℕ → Place
  Trace : List ℕ → List ℕ → Place

-- the file of the page that a path's only segment names
abbrev pub file_named : List ℕ → Option PageFile
file_named [] = Some Html
file_named root = if bytes_eq root (codes "page.css") then Some Style else (if bytes_eq root (codes "page.js") then Some Script else None)

abbrev pub place_of_root : List ℕ → Option Place
place_of_root root =
    if bytes_eq root (codes "blocks") then Some Blocks
    else (if bytes_eq root (codes "signoffs") then Some Signoffs else option_map File (file_named root))

abbrev pub place_of_part : List ℕ → List ℕ → Option Place
place_of_part name part =
    if bytes_eq part (codes "module") then Some (Module name)
    else (if bytes_eq part (codes "set") then Some (Set name)
    else (if bytes_eq part (codes "check") then Some (Check name)
    else (if bytes_eq part (codes "report") then Some (Report name)
    else (if bytes_eq part (codes "sign") then Some (Sign name) else None))))

-- a segment has at least one byte
abbrev pub is_given : List ℕ → Bool
is_given [] = false
is_given (b ∷ bs) = true

abbrev pub place_below : List ℕ → List ℕ → List ℕ → Option Place
place_below root name part = if bytes_eq root (codes "blocks") && is_given name then place_of_part name part else None

abbrev pub place_of_trace : List ℕ → List ℕ → List ℕ → List ℕ → Option Place
place_of_trace root name part line =
    if bytes_eq root (codes "blocks") && is_given name && bytes_eq part (codes "trace") && is_given line then Some (Trace name line) else None

-- by the segments of the path, of which the first is empty
abbrev pub place_of_segments : List (List ℕ) → Option Place
place_of_segments ([] ∷ root ∷ []) = place_of_root root
place_of_segments ([] ∷ root ∷ name ∷ part ∷ []) = place_below root name part
place_of_segments ([] ∷ root ∷ name ∷ part ∷ line ∷ []) = place_of_trace root name part line
place_of_segments _ = None

abbrev pub place_of : List ℕ → Option Place
place_of path = place_of_segments (slice_split (λ b. b == 47) path)

-- a block's name: 1 to 64 letters, digits, `_`, `-` and `.`
abbrev pub is_name_byte : ℕ → Bool
is_name_byte b = is_ascii_alphanumeric b || b == 95 || b == 45 || b == 46

abbrev pub is_block_name : List ℕ → Bool
is_block_name name = nat_le 1 (length name) && nat_le (length name) 64 && list_all is_name_byte name

-- a line that isn't 1 to 5 digits counts as line 0
abbrev pub line_number : List ℕ → ℕ
line_number line = if nat_le 1 (length line) && nat_le (length line) 5 && list_all is_ascii_digit line then digits_value 10 line else 0
