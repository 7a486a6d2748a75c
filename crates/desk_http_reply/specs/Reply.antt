-- The bytes of a reply (RFC 9112, section 4), as a function of the status and of what is answered.
use Rattle.std.specs.Prelude.{ℕ, List, [], ◌∷◌, ◌++◌, length, map, codes, decimal, ◌==◌, ◌||◌, if◌then◌else◌}
use Rattle.std.specs.Char.{is_ascii_alphanumeric}
use Rattle.std.specs.List.{flat_map}
use Rattle.outside.specs.declared.rows.Sign.{Sign}
use Rattle.desk_core_commands.specs.declared.command.Answer.{Answer}
use Rattle.desk_core_commands.specs.declared.command.Answer.TheVariants.{Stored, Refused, NoBlock, NoText, NoReport, NoTrace, NotSigned, Reported, Traced, Signed, Names, Signs}
use Rattle.desk_http_request.specs.declared.wanted.PageFile.{PageFile}
use Rattle.desk_http_request.specs.declared.wanted.PageFile.TheVariants.{Html, Style, Script}
use Rattle.desk_http_request.specs.declared.refusal.Refusal.{Refusal}
use Rattle.desk_http_request.specs.declared.refusal.Refusal.TheVariants.{Head, LargeHead, Coding, Length, NoLength, Long, NoRoute, Method, Name}
use Rattle.desk_http_reply.specs.declared.page_files.TheConstants.{PAGE_CSS, PAGE_HTML, PAGE_JS}
use Rattle.desk_http_reply.specs.declared.replies.Reply.{Reply}

-- the phrase of a status (RFC 9110, section 15)
abbrev pub phrase : ℕ → List ℕ
phrase status =
    if status == 200 then codes "OK"
    else (if status == 400 then codes "Bad Request"
    else (if status == 404 then codes "Not Found"
    else (if status == 405 then codes "Method Not Allowed"
    else (if status == 409 then codes "Conflict"
    else (if status == 411 then codes "Length Required"
    else (if status == 413 then codes "Content Too Large"
    else (if status == 422 then codes "Unprocessable Content"
    else (if status == 431 then codes "Request Header Fields Too Large"
    else (if status == 501 then codes "Not Implemented"
    else codes "Service Unavailable")))))))))

abbrev pub text_plain : List ℕ
text_plain = codes "text/plain"

abbrev pub json : List ℕ
json = codes "application/json"

abbrev pub crlf : List ℕ
crlf = 13 ∷ 10 ∷ []

unfoldable pub status_line : ℕ → List ℕ
status_line status = codes "HTTP/1.1 " ++ decimal status ++ codes " " ++ phrase status ++ crlf

unfoldable pub header_line : List ℕ → List ℕ → List ℕ
header_line name value = name ++ codes ": " ++ value ++ crlf

-- the head of a reply whose body has this many bytes
abbrev pub head_bytes : ℕ → List ℕ → ℕ → List ℕ
head_bytes status kind count =
    status_line status
    ++ header_line (codes "Content-Type") kind
    ++ header_line (codes "Content-Length") (decimal count)
    ++ header_line (codes "Connection") (codes "close")
    ++ crlf

-- a reply with a body of this kind
abbrev pub reply_with : ℕ → List ℕ → List ℕ → Reply
reply_with status kind body = record { status = status; bytes = head_bytes status kind (length body) ++ body }

-- a name's byte as it stands in the lists
abbrev pub shown_byte : ℕ → ℕ
shown_byte b = if is_ascii_alphanumeric b || b == 95 || b == 45 || b == 46 then b else 63

abbrev pub comma_before : List ℕ → List ℕ
comma_before item = 44 ∷ item

-- the items in brackets, with a comma between each two
abbrev pub comma_list : List (List ℕ) → List ℕ
comma_list [] = codes "[]"
comma_list (x ∷ xs) = 91 ∷ (x ++ flat_map comma_before xs ++ 93 ∷ [])

abbrev pub name_item : List ℕ → List ℕ
name_item name = 34 ∷ (map shown_byte name ++ 34 ∷ [])

unfoldable pub sign_item : Sign → List ℕ
sign_item s = codes "{\"block\":\"" ++ map shown_byte s.block ++ codes "\",\"number\":" ++ decimal s.number ++ codes "}"

abbrev pub error_body : List ℕ → List ℕ
error_body text = codes "{\"error\":\"" ++ text ++ codes "\"}"

-- a reply that says why there is no answer
abbrev pub error_with : ℕ → List ℕ → Reply
error_with status text = reply_with status json (error_body text)

-- the reply to an answer
abbrev pub reply_of : Answer → Reply
reply_of Stored = reply_with 200 json (codes "{\"stored\":true}")
reply_of (Refused line) = error_with 422 line
reply_of NoBlock = error_with 404 (codes "no block")
reply_of NoText = error_with 404 (codes "no text")
reply_of NoReport = error_with 404 (codes "no report")
reply_of NoTrace = error_with 404 (codes "no trace")
reply_of NotSigned = error_with 409 (codes "not signed off")
reply_of (Reported text) = reply_with 200 text_plain text
reply_of (Traced text) = reply_with 200 text_plain text
reply_of (Signed n) = reply_with 200 json (codes "{\"number\":" ++ decimal n ++ codes "}")
reply_of (Names names) = reply_with 200 json (comma_list (map name_item names))
reply_of (Signs signs) = reply_with 200 json (comma_list (map sign_item signs))

-- what kind of text a file of the page is (RFC 2046, 2318 and 9239)
abbrev pub kind_of : PageFile → List ℕ
kind_of Html = codes "text/html; charset=utf-8"
kind_of Style = codes "text/css"
kind_of Script = codes "text/javascript"

abbrev pub bytes_of : PageFile → List ℕ
bytes_of Html = PAGE_HTML.now
bytes_of Style = PAGE_CSS.now
bytes_of Script = PAGE_JS.now

-- the reply to a request for a file of the page
abbrev pub file_reply : PageFile → Reply
file_reply file = reply_with 200 (kind_of file) (bytes_of file)

-- the reply to a request that is refused
abbrev pub refusal_reply : Refusal → Reply
refusal_reply Head = error_with 400 (codes "head")
refusal_reply LargeHead = error_with 431 (codes "large head")
refusal_reply Coding = error_with 501 (codes "coding")
refusal_reply Length = error_with 400 (codes "length")
refusal_reply NoLength = error_with 411 (codes "no length")
refusal_reply Long = error_with 413 (codes "long")
refusal_reply NoRoute = error_with 404 (codes "no route")
refusal_reply Method = error_with 405 (codes "method")
refusal_reply Name = error_with 400 (codes "name")

-- the desk's store failed
abbrev pub keeper_reply : Reply
keeper_reply = error_with 503 (codes "keeper")

-- the fixed text where memory ran out
abbrev pub starved_bytes : List ℕ
starved_bytes = codes "HTTP/1.1 507 Insufficient Storage" ++ crlf ++ codes "Content-Length: 0" ++ crlf
    ++ codes "Connection: close" ++ crlf ++ crlf

abbrev pub starved_reply : Reply
starved_reply = record { status = 507; bytes = starved_bytes }
