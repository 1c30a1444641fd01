-- Lines of a book, one token or one item at a time.
use Rattle.std.proofs.Common.{◌≡◌, ℕ, suc, ◌+◌, ◌≤◌, Bool, true, false, if◌then◌else◌, List, [], ◌∷◌, ◌++◌, length, Some, None, Err, refl, ap, ◌∙◌, sym, subst, arith, append_assoc}
use Rattle.std.proofs.lemmas.Bool.{false≢true}
use Rattle.std.proofs.lemmas.List.{append-nil}
use Rattle.fb_lex.specs.declared.tokens.Kind.{Kind}
use Rattle.fb_lex.specs.declared.tokens.Kind.TheVariants as k
use Rattle.fb_lex.specs.declared.tokens.Token.{Token}
use Rattle.fb_lex.specs.declared.tokens.LexFault.{LexFault}
use Rattle.fb_lex.specs.Tokens.{IsNext, IsFault, is_end, is_name}
use Rattle.fb_lex.specs.TokenList.{Lexeme, sign, name, seen, lexeme, left, Reads, TokensBehind}
use Rattle.fb_parse.specs.declared.fault.ParseFault.{ParseFault}
use Rattle.fb_parse.specs.declared.fault.ParseFault.TheVariants.{Lex, Syntax, ManyItems}
use Rattle.fb_parse.specs.Items.{SurfaceItem, IsEntry, IsItem, IsLines, ends_line}
use Rattle.fb_parse.specs.Reading.{Begins, BeginsNone, Read, Fails}
use Rattle.fb_parse.specs.Parts.{NextOrFault, behind_term, ends_term}
use Rattle.fb_parse.specs.ItemParts.{ItemIs, SomeItem, begins_item}
use Rattle.fb_parse.specs.Lines.{LinesAre, BeginsLines, NoLines, LinesFail}
use Rattle.fb_parse.specs.Texts.{IsBookText, BeginsBook, Refuses}
use Rattle.fb_parse.specs.declared.tree.Item.{Item}
use Rattle.fb_parse.specs.ItemView.{item_view, items_view, before_items}
use Rattle.fb_parse.proofs.Calculus.{starts, reads_append, lexeme_kind, seen_sign}
use Rattle.fb_parse.proofs.Single.{tails, heads}
use Rattle.fb_parse.proofs.Shapes.{first_is, seen_first, star_term}
use Rattle.fb_parse.proofs.Whole.{tokens_of, tokens_to_fault}

-- The end, and a token that is passed over.
pub lines_end : (text : List ℕ) (t : Token) (b : ℕ) → t.kind ≡ k.End → LinesAre text b t []
lines_end text t b h = record {
  tokens = [];
  last = t;
  reads = Reads.here;
  ended = h;
  parses = λ l. subst (λ v. IsLines l b (v ∷ []) [] []) (sym (seen_sign text t k.End refl h)) IsLines.end;
}

begins_nothing : (b m l : ℕ) → BeginsLines b m l []
begins_nothing b m l = record { more = sign k.End l l ∷ []; items = []; parses = IsLines.end; few = omega arith }

-- with this token before, lines behind b bars are lines behind c bars
abbrev pub Passes : (text : List ℕ) (t : Token) (b c : ℕ) → Type 0
Passes text t b c = (l : ℕ) (ts : List Lexeme) (is : List SurfaceItem) → IsLines l c ts is [] → IsLines l b (seen text t ∷ ts) is []

abbrev pub PassesBack : (text : List ℕ) (t : Token) (b c : ℕ) → Type 0
PassesBack text t b c = (l : ℕ) (ts : List Lexeme) (is : List SurfaceItem) → IsLines l b (seen text t ∷ ts) is [] → IsLines l c ts is []

pub pass_are : {text : List ℕ} {t u : Token} {b c : ℕ} {is : List SurfaceItem} → Passes text t b c → is_end t.kind ≡ false → IsNext text (Some t) u → LinesAre text c u is → LinesAre text b t is
pass_are {text} {t} {u} {b} {c} {is} into e n h = record {
  tokens = seen text t ∷ h.tokens;
  last = h.last;
  reads = Reads.next e n h.reads;
  ended = h.ended;
  parses = λ l. into l _ is (h.parses l);
}

pass_begins : (text : List ℕ) (t : Token) {b c m l : ℕ} {front : List Lexeme} → Passes text t b c → BeginsLines c m l front → BeginsLines b m l (seen text t ∷ front)
pass_begins text t {l = l} into h = record { more = h.more; items = h.items; parses = into l _ h.items h.parses; few = h.few }

pass_none : (text : List ℕ) (t : Token) {b c m l : ℕ} (front : List Lexeme) → PassesBack text t b c → NoLines c m l front → NoLines b m l (seen text t ∷ front)
pass_none text t {l = l} front back h = λ more is p few. h more is (back l _ is p) few

pub pass_fail : {text : List ℕ} {t u : Token} {b c m : ℕ} {f : ParseFault} → Passes text t b c → PassesBack text t b c → is_end t.kind ≡ false → IsNext text (Some t) u → LinesFail text c m u f → LinesFail text b m t f
pass_fail into back e n LinesFail.memory = LinesFail.memory
pass_fail {text} {t} into back e n (LinesFail.lex r i j s) = LinesFail.lex (Reads.next e n r) i j (λ l. pass_begins text t into (s l))
pass_fail {text} {t} into back e n (LinesFail.syntax r s o) = LinesFail.syntax (Reads.next e n r) (λ l. pass_begins text t into (s l)) (λ any l. pass_none text t _ back (o any l))
pass_fail {text} {t} into back e n (LinesFail.deep r s o) = LinesFail.deep (Reads.next e n r) (pass_begins text t into s) (λ any. pass_none text t _ back (o any))
pass_fail {text} {t} into back e n (LinesFail.many_items r i s o) = LinesFail.many_items (Reads.next e n r) (λ l. pass_begins text t into (i l)) (λ l. pass_begins text t into (s l)) (λ l. pass_none text t _ back (o l))

-- no token comes behind one that is passed over
pub pass_fault : {text : List ℕ} {t : Token} {b c m : ℕ} (f : ParseFault) → Passes text t b c → is_end t.kind ≡ false → NextOrFault text t (Err f) → LinesFail text b m t f
pass_fault {text} {t} {c = c} {m = m} (Lex f) into e i = LinesFail.lex Reads.here e i (λ l. pass_begins text t into (begins_nothing c m l))
pass_fault _ into e i = absurd i

-- bars
bar_from : {l b s e : ℕ} {ts : List Lexeme} {is : List SurfaceItem} (x : Lexeme) → x ≡ sign k.Bar s e → IsLines l (b + 1) ts is [] → IsLines l b (x ∷ ts) is []
bar_from {l} {b} {s} {e} {ts} {is} x h p = subst (λ v. IsLines l b (v ∷ ts) is []) (sym h) (IsLines.bar p)

pub item_not : {l b : ℕ} {ts r : List Lexeme} {i : SurfaceItem} → IsItem l b ts i r → first_is begins_item ts ≡ true
item_not (IsItem.flag t) = refl
item_not (IsItem.entry t) = refl

bar_into : {l b s0 e0 : ℕ} {ts r : List Lexeme} {is : List SurfaceItem} → IsLines l b ts is r → (x : Lexeme) (us : List Lexeme) → ts ≡ x ∷ us → x ≡ sign k.Bar s0 e0 → IsLines l (b + 1) us is r
bar_into IsLines.end x us h i = cc
bar_into {l} {b} {s0} {e0} {ts} {r} {is} (IsLines.bar p) x us h i = subst (λ v. IsLines l (b + 1) v is r) (tails h) p
bar_into (IsLines.next_line p) x us h i = cc
bar_into (IsLines.item a q p) x us h i = absurd (false≢true (sym (ap (first_is begins_item) (h ∙ ap (λ v. v ∷ us) i)) ∙ item_not a))

pub bar_passes : (text : List ℕ) (t : Token) (b : ℕ) → t.kind ≡ k.Bar → Passes text t b (b + 1)
bar_passes text t b h = λ l ts is p. bar_from (seen text t) (seen_sign text t k.Bar refl h) p

pub bar_back : (text : List ℕ) (t : Token) (b : ℕ) → t.kind ≡ k.Bar → PassesBack text t b (b + 1)
bar_back text t b h = λ l ts is p. bar_into p (seen text t) ts refl (seen_sign text t k.Bar refl h)

-- ends of lines
line_into : {l b s0 e0 : ℕ} {ts r : List Lexeme} {is : List SurfaceItem} → IsLines l b ts is r → (x : Lexeme) (us : List Lexeme) → ts ≡ x ∷ us → x ≡ sign k.Newline s0 e0 → IsLines l 0 us is r
line_into IsLines.end x us h i = cc
line_into (IsLines.bar p) x us h i = cc
line_into {l} {b} {s0} {e0} {ts} {r} {is} (IsLines.next_line p) x us h i = subst (λ v. IsLines l 0 v is r) (tails h) p
line_into (IsLines.item a q p) x us h i = absurd (false≢true (sym (ap (first_is begins_item) (h ∙ ap (λ v. v ∷ us) i)) ∙ item_not a))

pub line_passes : (text : List ℕ) (t : Token) (b : ℕ) → t.kind ≡ k.Newline → Passes text t b 0
line_passes text t b h = λ l ts is p. subst (λ v. IsLines l b (v ∷ ts) is []) (sym (seen_sign text t k.Newline refl h)) (IsLines.next_line p)

pub line_back : (text : List ℕ) (t : Token) (b : ℕ) → t.kind ≡ k.Newline → PassesBack text t b 0
line_back text t b h = λ l ts is p. line_into p (seen text t) ts refl (seen_sign text t k.Newline refl h)

-- Lines that begin with an item.
record ItemFirst (l b : ℕ) (ts : List Lexeme) (is : List SurfaceItem) (r : List Lexeme) : Type 0 where
  first : SurfaceItem
  others : List SurfaceItem
  rest : List Lexeme
  at : IsItem l b ts first rest
  behind : behind_term rest ≡ true
  ended : (x : Lexeme) (us : List Lexeme) → rest ≡ x ∷ us → first_is ends_line (x ∷ us) ≡ true
  lines : IsLines l b rest others r
  all : is ≡ first ∷ others

pub ends_behind : (kind : Kind) → ends_line kind ≡ true → ends_term kind ≡ true
ends_behind k.Newline h = refl
ends_behind k.End h = refl
ends_behind _ h = absurd (false≢true h)

ends_no_name : (kind : Kind) → ends_line kind ≡ true → is_name kind ≡ false
ends_no_name k.Name h = absurd (false≢true h)
ends_no_name _ h = refl

item_first : {l b : ℕ} {ts r : List Lexeme} {is : List SurfaceItem} → IsLines l b ts is r → first_is begins_item ts ≡ true → ItemFirst l b ts is r
item_first IsLines.end h = absurd (false≢true h)
item_first (IsLines.bar p) h = absurd (false≢true h)
item_first (IsLines.next_line p) h = absurd (false≢true h)
item_first (IsLines.item {kind = kind} {i = i} {is = is} a q p) h = record {
  first = i;
  others = is;
  rest = _;
  at = a;
  behind = ends_behind kind q;
  ended = λ x us e. ap (first_is ends_line) (sym e) ∙ q;
  lines = p;
  all = refl;
}

-- an item and the lines that go on with the end of its line
item_lines : {l b s e : ℕ} {kind : Kind} {ts us : List Lexeme} {i : SurfaceItem} {is : List SurfaceItem} (x : Lexeme) → x ≡ sign kind s e → ends_line kind ≡ true → IsItem l b ts i (x ∷ us) → IsLines l b (x ∷ us) is [] → IsLines l b ts (i ∷ is) []
item_lines {l} {b} {s} {e} {kind} {ts} {us} {i} {is} x h q a p = IsLines.item (subst (λ v. IsItem l b ts i (v ∷ us)) h a) q (subst (λ v. IsLines l b (v ∷ us) is []) h p)

seen_item_lines : (text : List ℕ) {l b : ℕ} {ts us : List Lexeme} {i : SurfaceItem} {is : List SurfaceItem} (u : Token) → ends_line u.kind ≡ true → IsItem l b ts i (seen text u ∷ us) → IsLines l b (seen text u ∷ us) is [] → IsLines l b ts (i ∷ is) []
seen_item_lines text u q a p = item_lines (seen text u) (seen_sign text u u.kind (ends_no_name u.kind q) refl) q a p

pub item_are : {text : List ℕ} {b : ℕ} {t u : Token} {i : SurfaceItem} {is : List SurfaceItem} → ends_line u.kind ≡ true → Read text (ItemIs b i) (SomeItem b) behind_term t u → LinesAre text b u is → LinesAre text b t (i ∷ is)
item_are {text} {b} {t} {u} {i} {is} q r h = record {
  tokens = r.tokens ++ h.tokens;
  last = h.last;
  reads = reads_append r.reads h.reads;
  ended = h.ended;
  parses = λ l.
      let k = starts h.reads [] in
      subst (λ v. IsLines l b v (i ∷ is) []) (sym (append_assoc r.tokens h.tokens (seen text h.last ∷ []) ∙ ap (λ v. r.tokens ++ v) k.is))
      (seen_item_lines text u q (r.this l (seen text u ∷ k.tail)) (subst (λ v. IsLines l b v is []) k.is (h.parses l)));
}

-- an item is completed by the end
item_begins : {b m l : ℕ} {front : List Lexeme} → 1 ≤ m → Begins (SomeItem b l) front → BeginsLines b m l front
item_begins {b} {m} {l} {front} some h =
    let w = h.whole (sign k.End l l ∷ []) in
    record {
      more = h.more ++ (sign k.End l l ∷ []);
      items = w.0 ∷ [];
      parses = IsLines.item w.1 refl IsLines.end;
      few = some;
    }

-- the list starts with t, which begins an item
seen_item : (text : List ℕ) (t : Token) (ts : List Lexeme) → begins_item t.kind ≡ true → first_is begins_item (seen text t ∷ ts) ≡ true
seen_item text t ts h = seen_first begins_item text t.kind t.span.start t.span.end ts ∙ h

none_first : {text : List ℕ} {b l : ℕ} {t u : Token} {ts : List Lexeme} (any : ℕ) → begins_item t.kind ≡ true → Reads text t ts u → BeginsNone (SomeItem b l) behind_term (ts ++ (seen text u ∷ [])) → NoLines b any l (ts ++ (seen text u ∷ []))
none_first {text} {b} {l} {t} {u} {ts} any begins r n = λ more is p few.
    let h = starts r more in
    let e = append_assoc ts (seen text u ∷ []) more ∙ h.is in
    let d = item_first (subst (λ v. IsLines l b v is []) e p) (seen_item text t h.tail begins) in
    n more d.rest (subst (λ v. SomeItem b l v d.rest) (sym e) (d.first, d.at)) d.behind

pub item_fails : {text : List ℕ} {b m : ℕ} {t : Token} {f : ParseFault} → 1 ≤ m → begins_item t.kind ≡ true → Fails text (SomeItem b) behind_term t f → LinesFail text b m t f
item_fails some begins Fails.memory = LinesFail.memory
item_fails some begins (Fails.lex r e i s) = LinesFail.lex r e i (λ l. item_begins some (s l))
item_fails some begins (Fails.syntax r s o) = LinesFail.syntax r (λ l. item_begins some (s l)) (λ any l. none_first any begins r (o l))
item_fails some begins (Fails.deep r s o) = LinesFail.deep r (item_begins some s) (λ any. none_first any begins r o)

-- What fails behind an item.
begins_behind : {text : List ℕ} {b m l : ℕ} {t u : Token} {i : SurfaceItem} {tail : List Lexeme} → ends_line u.kind ≡ true → (r : Read text (ItemIs b i) (SomeItem b) behind_term t u) → BeginsLines b m l (seen text u ∷ tail) →
    BeginsLines b (m + 1) l (r.tokens ++ (seen text u ∷ tail))
begins_behind {text} {b} {m} {l} {t} {u} {i} {tail} q r h = record {
  more = h.more;
  items = i ∷ h.items;
  parses = subst (λ v. IsLines l b v (i ∷ h.items) []) (sym (append_assoc r.tokens (seen text u ∷ tail) h.more)) (seen_item_lines text u q (r.this l (seen text u ∷ (tail ++ h.more))) h.parses);
  few = omega (arith, h.few);
}

none_behind : {text : List ℕ} {b m l : ℕ} {t u : Token} {i : SurfaceItem} (tail : List Lexeme) → begins_item t.kind ≡ true → (r : Read text (ItemIs b i) (SomeItem b) behind_term t u) → NoLines b m l (seen text u ∷ tail) →
    NoLines b (m + 1) l (r.tokens ++ (seen text u ∷ tail))
none_behind {text} {b} {m} {l} {t} {u} {i} tail begins r n = λ more is p few.
    let h = starts r.reads (tail ++ more) in
    let e = append_assoc r.tokens (seen text u ∷ tail) more ∙ h.is in
    let d = item_first (subst (λ v. IsLines l b v is []) e p) (seen_item text t h.tail begins) in
    let same = r.only l (tail ++ more) d.rest (subst (λ v. SomeItem b l v d.rest) (sym h.is) (d.first, d.at)) d.behind in
    let fewer : suc (length d.others) ≤ m + 1 = subst (λ v. length v ≤ m + 1) d.all few in
    n more d.others (subst (λ v. IsLines l b v d.others []) same d.lines) (omega (arith, fewer))

-- with no token behind the item, the end completes it
begins_ended : {text : List ℕ} {b m : ℕ} {t u : Token} {i : SurfaceItem} (l : ℕ) → 1 ≤ m → (r : Read text (ItemIs b i) (SomeItem b) behind_term t u) → BeginsLines b m l r.tokens
begins_ended {text} {b} {m} {t} {u} {i} l some r = record {
  more = sign k.End l l ∷ [];
  items = i ∷ [];
  parses = IsLines.item (r.this l (sign k.End l l ∷ [])) refl IsLines.end;
  few = some;
}

syntax_begins : {text : List ℕ} {b m l : ℕ} {t u w : Token} {i : SurfaceItem} {ts : List Lexeme} → ends_line u.kind ≡ true → (r : Read text (ItemIs b i) (SomeItem b) behind_term t u) → Reads text u ts w → BeginsLines b m l ts → BeginsLines b (m + 1) l (r.tokens ++ ts)
syntax_begins {b = b} {m = m} {l = l} q r Reads.here h = subst (λ v. BeginsLines b (m + 1) l v) (sym (append-nil r.tokens)) (begins_ended l (omega arith) r)
syntax_begins q r (Reads.next e n s) h = begins_behind q r h

-- the lists that a fault names, behind the tokens of the item
begins_with : {text : List ℕ} {b m l : ℕ} {t u w : Token} {i : SurfaceItem} {ts : List Lexeme} → ends_line u.kind ≡ true → (r : Read text (ItemIs b i) (SomeItem b) behind_term t u) → Reads text u ts w → BeginsLines b m l (ts ++ (seen text w ∷ [])) →
    BeginsLines b (m + 1) l ((r.tokens ++ ts) ++ (seen text w ∷ []))
begins_with {text} {b} {m} {l} {t} {u} {w} {i} {ts} q r s h =
    let k = starts s [] in
    subst (λ v. BeginsLines b (m + 1) l v) (sym (append_assoc r.tokens ts (seen text w ∷ []) ∙ ap (λ v. r.tokens ++ v) k.is)) (begins_behind q r (subst (λ v. BeginsLines b m l v) k.is h))

none_with : {text : List ℕ} {b m l : ℕ} {t u w : Token} {i : SurfaceItem} {ts : List Lexeme} → begins_item t.kind ≡ true → (r : Read text (ItemIs b i) (SomeItem b) behind_term t u) → Reads text u ts w → NoLines b m l (ts ++ (seen text w ∷ [])) →
    NoLines b (m + 1) l ((r.tokens ++ ts) ++ (seen text w ∷ []))
none_with {text} {b} {m} {l} {t} {u} {w} {i} {ts} begins r s h =
    let k = starts s [] in
    subst (λ v. NoLines b (m + 1) l v) (sym (append_assoc r.tokens ts (seen text w ∷ []) ∙ ap (λ v. r.tokens ++ v) k.is)) (none_behind k.tail begins r (subst (λ v. NoLines b m l v) k.is h))

-- fewer items may be allowed, and no more
none_any : {b l : ℕ} (front : List Lexeme) → ((any : ℕ) → NoLines b (any + 1) l front) → (any : ℕ) → NoLines b any l front
none_any front h any = λ more is p few. h any more is p (omega (arith, few))

pub item_fail : {text : List ℕ} {b m : ℕ} {t u : Token} {i : SurfaceItem} {f : ParseFault} → begins_item t.kind ≡ true → ends_line u.kind ≡ true → Read text (ItemIs b i) (SomeItem b) behind_term t u → LinesFail text b m u f → LinesFail text b (m + 1) t f
item_fail begins q r LinesFail.memory = LinesFail.memory
item_fail begins q r (LinesFail.lex s e j o) = LinesFail.lex (reads_append r.reads s) e j (λ l. begins_with q r s (o l))
item_fail begins q r (LinesFail.syntax s o n) = LinesFail.syntax (reads_append r.reads s) (λ l. syntax_begins q r s (o l)) (λ any l. none_any _ (λ a. none_with begins r s (n a l)) any)
item_fail begins q r (LinesFail.deep s o n) = LinesFail.deep (reads_append r.reads s) (begins_with q r s o) (λ any. none_any _ (λ a. none_with begins r s (n a)) any)
item_fail begins q r (LinesFail.many_items s i o n) = LinesFail.many_items (reads_append r.reads s) (λ l. syntax_begins q r s (i l)) (λ l. begins_with q r s (o l)) (λ l. none_with begins r s (n l))

-- the line doesn't end behind the item
pub not_ended : {text : List ℕ} {b m : ℕ} {t u : Token} {i : SurfaceItem} → 1 ≤ m → begins_item t.kind ≡ true → ends_line u.kind ≡ false → Read text (ItemIs b i) (SomeItem b) behind_term t u → LinesFail text b m t (Syntax u.span.start)
not_ended {text} {b} {m} {t} {u} {i} some begins other r = LinesFail.syntax r.reads (λ l. begins_ended l some r)
    (λ any l more is p few.
    let h = starts r.reads more in
    let e = append_assoc r.tokens (seen text u ∷ []) more ∙ h.is in
    let d = item_first (subst (λ v. IsLines l b v is []) e p) (seen_item text t h.tail begins) in
    let same = r.only l more d.rest (subst (λ v. SomeItem b l v d.rest) (sym h.is) (d.first, d.at)) d.behind in
    false≢true (sym other ∙ sym (seen_first ends_line text u.kind u.span.start u.span.end more) ∙ d.ended (seen text u) more same))

-- no item, bar or end of a line begins there
other_first : {l b : ℕ} {ts r : List Lexeme} {is : List SurfaceItem} → IsLines l b ts is r → (x : Lexeme) (us : List Lexeme) → ts ≡ x ∷ us → ((s e : ℕ) → x ≡ sign k.End s e → ⊥) → ((s e : ℕ) → x ≡ sign k.Bar s e → ⊥) →
    ((s e : ℕ) → x ≡ sign k.Newline s e → ⊥) → first_is begins_item (x ∷ us) ≡ true
other_first IsLines.end x us h i j m = absurd (i _ _ (sym (heads h)))
other_first (IsLines.bar p) x us h i j m = absurd (j _ _ (sym (heads h)))
other_first (IsLines.next_line p) x us h i j m = absurd (m _ _ (sym (heads h)))
other_first (IsLines.item a q p) x us h i j m = ap (first_is begins_item) (sym h) ∙ item_not a

pub no_item : (text : List ℕ) (t : Token) (b m : ℕ) → (t.kind ≡ k.End → ⊥) → (t.kind ≡ k.Bar → ⊥) → (t.kind ≡ k.Newline → ⊥) → begins_item t.kind ≡ false → LinesFail text b m t (Syntax t.span.start)
no_item text t b m i j n other = LinesFail.syntax Reads.here (begins_nothing b m)
    (λ any l more is p few. false≢true (sym other ∙ sym (seen_first begins_item text t.kind t.span.start t.span.end more) ∙
    other_first p (seen text t) more refl (λ s e h. i (lexeme_kind text t.kind _ _ k.End s e h)) (λ s e h. j (lexeme_kind text t.kind _ _ k.Bar s e h)) (λ s e h. n (lexeme_kind text t.kind _ _ k.Newline s e h))))

-- a token that begins an item begins one
first_begins : (b l : ℕ) (text : List ℕ) (kind : Kind) (s e : ℕ) → begins_item kind ≡ true → Begins (SomeItem b l) (lexeme text kind s e ∷ [])
first_begins b l text k.LBracket s e h = record {
  more = name [] l l ∷ sign k.Colon l l ∷ sign k.Star l l ∷ sign k.RBracket l l ∷ [];
  whole = λ rest. (_, IsItem.flag (star_term 1 l (sign k.RBracket l l ∷ rest)));
}
first_begins b l text k.Name s e h = record {
  more = sign k.Assign l l ∷ sign k.Prim l l ∷ sign k.Colon l l ∷ sign k.Star l l ∷ [];
  whole = λ rest. (_, IsItem.entry (IsEntry.primitive (star_term 1 l rest)));
}
first_begins b l text _ s e h = absurd (false≢true h)

-- one item too many begins
pub too_many : (text : List ℕ) (t : Token) (b : ℕ) → begins_item t.kind ≡ true → LinesFail text b 0 t (ManyItems t.span.start)
too_many text t b begins = LinesFail.many_items Reads.here (begins_nothing b 0) (λ l. item_begins (omega arith) (first_begins b l text t.kind t.span.start t.span.end begins))
    (λ l more is p few.
    let d = item_first p (seen_item text t more begins) in
    let none : suc (length d.others) ≤ 0 = subst (λ v. length v ≤ 0) d.all few in
    omega (arith, none))

-- how many tokens may be left
one_at_most : (b : Bool) → (if b then 0 else 1) ≤ 1
one_at_most true = omega arith
one_at_most false = omega arith

pub left_within : (text : List ℕ) (t : Token) → left text t ≤ length text + 1
left_within text t = omega (arith, one_at_most (is_end t.kind))

one : (b : Bool) → b ≡ false → 1 ≤ (if b then 0 else 1)
one true h = absurd (false≢true (sym h))
one false h = omega arith

pub left_some : (text : List ℕ) (t : Token) → is_end t.kind ≡ false → 1 ≤ left text t
left_some text t h = omega (arith, one (is_end t.kind) h)

-- Items before others.
pub before_items_push : (text : List ℕ) (xs : List Item) (i : Item) (ys : List SurfaceItem) → before_items text (xs ++ i ∷ []) ys ≡ before_items text xs (item_view text i ∷ ys)
before_items_push text [] i ys = refl
before_items_push text (x ∷ xs) i ys = ap (λ v. item_view text x ∷ v) (before_items_push text xs i ys)

pub before_items_none : (text : List ℕ) (xs : List Item) → before_items text xs [] ≡ items_view text xs
before_items_none text [] = refl
before_items_none text (x ∷ xs) = ap (λ v. item_view text x ∷ v) (before_items_none text xs)

items_count : (text : List ℕ) (xs : List Item) → length (items_view text xs) ≡ length xs
items_count text [] = refl
items_count text (x ∷ xs) = ap suc (items_count text xs)

-- Whole books.
pub book_text : (text : List ℕ) (t : Token) (xs : List Item) → IsNext text None t → LinesAre text 0 t (items_view text xs) → length xs ≤ 100_000 → IsBookText text (items_view text xs)
book_text text t xs n h few = record {
  tokens = h.tokens ++ (seen text h.last ∷ []);
  are = tokens_of n h.reads (ap is_end h.ended);
  parses = h.parses;
  few = subst (λ v. v ≤ 100_000) (sym (items_count text xs)) few;
}

begins_book : {most l : ℕ} {front : List Lexeme} → BeginsLines 0 most l front → BeginsBook most l front
begins_book h = record { more = h.more; items = h.items; parses = h.parses; few = h.few }

none_book : {most l : ℕ} {front : List Lexeme} → NoLines 0 most l front → BeginsBook most l front → ⊥
none_book n h = n h.more h.items h.parses h.few

pub book_fails : (text : List ℕ) (t : Token) {f : ParseFault} → IsNext text None t → LinesFail text 0 100_000 t f → Refuses text BeginsBook f
book_fails text t n LinesFail.memory = Refuses.memory
book_fails text t n (LinesFail.lex r e i s) = Refuses.lex (tokens_to_fault n r e i) (λ l. begins_book (s l))
book_fails text t n (LinesFail.syntax r s o) = Refuses.syntax (record { first = t; next = n; reads = r }) (λ l. begins_book (s l)) (λ most l. none_book (o most l))
book_fails text t n (LinesFail.deep r s o) = Refuses.deep (record { first = t; next = n; reads = r }) (begins_book s) (λ most. none_book (o most))
book_fails text t n (LinesFail.many_items r i s o) = Refuses.many_items (record { first = t; next = n; reads = r }) (λ l. begins_book (i l)) (λ l. begins_book (s l)) (λ l. none_book (o l))

pub fault_at_once : (text : List ℕ) {f : LexFault} → IsFault text None f → Refuses text BeginsBook (Lex f)
fault_at_once text i = Refuses.lex (TokensBehind.fault i) (λ l. begins_book (begins_nothing 0 100_000 l))
