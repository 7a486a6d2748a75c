use Rattle.desk_http_reply.proofs.replies.head.Goals as goal

pub returns : goal.returns
returns c = cc (c.in_ok-head.ensures, c.in_ok-add_header.ensures, c.in_ok-add_number.ensures, c.in_ok-add_header-2.ensures, c.in_ok-extend_from_slice.ensures.items)
