-- The forms of a body as parts one behind the other.
use Rattle.std.proofs.Common.{nat_eq, eq-eqb, ◌≡◌, ℕ, false, List, [], ◌∷◌, refl, ap, ◌∙◌, sym, subst}
use Rattle.std.specs.Prelude.{codes}
use Rattle.std.proofs.lemmas.Bool.{false≢true}
use Rattle.fb_lex.specs.declared.tokens.Kind.TheVariants as k
use Rattle.fb_lex.specs.declared.tokens.Token.{Token}
use Rattle.fb_lex.specs.TokenList.{Lexeme, sign, name, seen, between, Reads}
use Rattle.fb_parse.specs.declared.fault.ParseFault.{ParseFault}
use Rattle.fb_parse.specs.declared.fault.ParseFault.TheVariants.{Syntax}
use Rattle.fb_parse.specs.Grammar.{Surface, Surfaces, more, span, Term}
use Rattle.fb_parse.specs.Items as g
use Rattle.fb_parse.specs.Items.{SurfaceArg, SurfaceBody, IsFilling, IsWay, IsBody}
use Rattle.fb_parse.specs.Reading.{Begins, Read, Fails}
use Rattle.fb_parse.specs.Parts.{Is, IsSign, IsName, IsWord, Then, anywhere, begins_term, behind_term, behind_terms, TermIs, SomeTerm, TermsAre, SomeTerms}
use Rattle.fb_parse.specs.ItemParts.{FillingIs, SomeFilling, WayIs, SomeWay, BodyIs, SomeBody, IsWordAt}
use Rattle.fb_parse.proofs.Calculus.{Part, Follows, Names, Back, then_read, then_fails, then_fails_first, seen_as, fails_as, begins_first, lexeme_kind, seen_sign, seen_name}
use Rattle.fb_parse.proofs.Single.{begins_sign, begins_name, heads}
use Rattle.fb_parse.proofs.Shapes.{first_is, terms_to_term, term_first, term_done}
use Rattle.fb_parse.proofs.Built.{any_follows, same_stop}
use Rattle.fb_parse.proofs.Listed.{terms_done}
use Rattle.fb_parse.proofs.Arguments.{seen_word, word_seen, name_bytes, as_part}

-- a word of one form at the token of another
clash : {word w x y : List ℕ} {s e s0 e0 : ℕ} {z : Lexeme} {ts us : List Lexeme} → word ≡ x → w ≡ y → name word s e ∷ ts ≡ z ∷ us → z ≡ name w s0 e0 → x ≡ y
clash p q h i = sym p ∙ name_bytes (heads h ∙ i) ∙ q

-- Words are told apart by their first bytes.
abbrev first_byte : List ℕ → ℕ
first_byte [] = 0
first_byte (b ∷ bs) = b

apart : (m n : ℕ) → nat_eq m n ≡ false → m ≡ n → ⊥
apart m n differ same = false≢true (sym differ ∙ eq-eqb m n same)

elim≢intro : codes "elim" ≡ codes "intro" → ⊥
elim≢intro h = apart 101 105 refl (ap first_byte h)

same≢intro : codes "same" ≡ codes "intro" → ⊥
same≢intro h = apart 115 105 refl (ap first_byte h)

use≢intro : codes "use" ≡ codes "intro" → ⊥
use≢intro h = apart 117 105 refl (ap first_byte h)

same≢elim : codes "same" ≡ codes "elim" → ⊥
same≢elim h = apart 115 101 refl (ap first_byte h)

use≢elim : codes "use" ≡ codes "elim" → ⊥
use≢elim h = apart 117 101 refl (ap first_byte h)

use≢same : codes "use" ≡ codes "same" → ⊥
use≢same h = apart 117 115 refl (ap first_byte h)

-- by intro
intro_names : Names (Then (IsWord (codes "intro")) IsName) SomeWay
intro_names = λ l ts rest p. let b = g.Intro (span p.2.1 p.2.2) p.2.0 in
    (b, subst (λ v. IsWay l v b rest) (sym (p.1.2 ∙ ap (λ v. name (codes "intro") p.1.0 p.1.1 ∷ v) p.2.3)) (IsWay.intro refl))

intro_into : {l : ℕ} {ts r : List Lexeme} {b : SurfaceBody} → IsWay l ts b r → (z : Lexeme) (us : List Lexeme) (w : List ℕ) (s0 e0 : ℕ) → ts ≡ z ∷ us → z ≡ name w s0 e0 → w ≡ codes "intro" → Then (IsWord (codes "intro")) IsName l (z ∷ us) r
intro_into (IsWay.intro {s = s} {e = e} {s1 = s1} {e1 = e1} {x = x} {rest = rest} o) z us w s0 e0 h i q = (_, (s, e, sym h ∙ ap (λ v. name v s e ∷ name x s1 e1 ∷ rest) o), (_, _, _, refl))
intro_into (IsWay.elimination o t a) z us w s0 e0 h i q = absurd (elim≢intro (clash o q h i))
intro_into (IsWay.same o t) z us w s0 e0 h i q = absurd (same≢intro (clash o q h i))
intro_into (IsWay.fill o t) z us w s0 e0 h i q = absurd (use≢intro (clash o q h i))

intro_back : (text : List ℕ) (t : Token) → IsWordAt text t (codes "intro") → Back text t behind_terms (Then (IsWord (codes "intro")) IsName) SomeWay
intro_back text t h = λ l ts rest p ok. intro_into p.1 (seen text t) ts _ _ _ refl (seen_word text t h) refl

pub intro_fails_1 : (text : List ℕ) (t : Token) {f : ParseFault} → IsWordAt text t (codes "intro") → Fails text (IsWord (codes "intro")) anywhere t f → Fails text SomeWay behind_terms t f
intro_fails_1 text t h q = fails_as intro_names (intro_back text t h) (λ rest ok. refl) (then_fails_first (any_follows IsName anywhere) begins_name q)

pub intro_fails_2 : (text : List ℕ) (t : Token) {u : Token} {A : Part} {f : ParseFault} → IsWordAt text t (codes "intro") → Read text A (IsWord (codes "intro")) anywhere t u → Fails text IsName anywhere u f → Fails text SomeWay behind_terms t f
intro_fails_2 text t h r q = fails_as intro_names (intro_back text t h) (λ rest ok. refl) (then_fails (any_follows IsName anywhere) r q)

pub intro_read : (text : List ℕ) (t u : Token) {v : Token} → IsWordAt text t (codes "intro") → u.kind ≡ k.Name → Read text (Is (seen text t)) (IsWord (codes "intro")) anywhere t u → Read text (Is (seen text u)) IsName anywhere u v →
    Read text (WayIs (g.Intro (span u.span.start u.span.end) (between text u.span.start u.span.end))) SomeWay behind_terms t v
intro_read text t u h named r r2 =
    let b = g.Intro (span u.span.start u.span.end) (between text u.span.start u.span.end) in
    seen_as (λ l ts rest p. subst (λ v. IsWay l v b rest) (sym (p.1 ∙ ap (λ v. v ∷ p.0) (seen_word text t h) ∙ ap (λ v. name (codes "intro") t.span.start t.span.end ∷ v) (p.2 ∙ ap (λ v. v ∷ rest) (seen_name text u named)))) (IsWay.intro refl))
    intro_names (intro_back text t h) (λ rest ok. refl) (then_read (any_follows IsName anywhere) r r2)

-- by elim
abbrev Elim2 : Part
Elim2 = Then (IsSign k.Comma) (SomeTerms 1)

abbrev Elim1 : Part
Elim1 = Then (SomeTerm 1) Elim2

elim_names : Names (Then (IsWord (codes "elim")) Elim1) SomeWay
elim_names = λ l ts rest p. let b = g.Elim (more p.2.1.0 p.2.2.2.0) in
    (b, subst (λ v. IsWay l v b rest) (sym p.1.2) (IsWay.elimination refl (subst (λ v. Term l 1 p.0 p.2.1.0 p.2.1.1 p.2.1.2 v) p.2.2.1.2 p.2.1.3) p.2.2.2.3))

elim_into : {l : ℕ} {ts r : List Lexeme} {b : SurfaceBody} → IsWay l ts b r → (z : Lexeme) (us : List Lexeme) (w : List ℕ) (s0 e0 : ℕ) → ts ≡ z ∷ us → z ≡ name w s0 e0 → w ≡ codes "elim" → Then (IsWord (codes "elim")) Elim1 l (z ∷ us) r
elim_into (IsWay.intro o) z us w s0 e0 h i q = absurd (elim≢intro (sym (clash o q h i)))
elim_into (IsWay.elimination {s = s} {e = e} {ts = ts} o t a) z us w s0 e0 h i q = (_, (s, e, sym h ∙ ap (λ v. name v s e ∷ ts) o), (_, (_, _, _, t), (_, (_, _, refl), (_, _, _, a))))
elim_into (IsWay.same o t) z us w s0 e0 h i q = absurd (same≢elim (clash o q h i))
elim_into (IsWay.fill o t) z us w s0 e0 h i q = absurd (use≢elim (clash o q h i))

elim_back : (text : List ℕ) (t : Token) → IsWordAt text t (codes "elim") → Back text t behind_terms (Then (IsWord (codes "elim")) Elim1) SomeWay
elim_back text t h = λ l ts rest p ok. elim_into p.1 (seen text t) ts _ _ _ refl (seen_word text t h) refl

comma_follows : Follows Elim2 behind_term behind_terms
comma_follows = λ l mid rest b ok. ap behind_term b.1.2

elim_done_2 : (l : ℕ) → Begins (Elim2 l) []
elim_done_2 l = begins_first (IsSign k.Comma) (SomeTerms 1) l [] (terms_done 1 l) (begins_sign k.Comma l)

elim_done_1 : (l : ℕ) → Begins (Elim1 l) []
elim_done_1 l = begins_first (SomeTerm 1) Elim2 l [] (elim_done_2 l) (term_done 1 l)

elim_fails : (text : List ℕ) (t : Token) {f : ParseFault} → IsWordAt text t (codes "elim") → Fails text (Then (IsWord (codes "elim")) Elim1) behind_terms t f → Fails text SomeWay behind_terms t f
elim_fails text t h q = fails_as elim_names (elim_back text t h) (same_stop behind_terms) q

pub elim_fails_1 : (text : List ℕ) (t : Token) {f : ParseFault} → IsWordAt text t (codes "elim") → Fails text (IsWord (codes "elim")) anywhere t f → Fails text SomeWay behind_terms t f
elim_fails_1 text t h q = elim_fails text t h (then_fails_first (any_follows Elim1 behind_terms) elim_done_1 q)

pub elim_fails_2 : (text : List ℕ) (t : Token) {u : Token} {A : Part} {f : ParseFault} → IsWordAt text t (codes "elim") → Read text A (IsWord (codes "elim")) anywhere t u → Fails text (SomeTerm 1) behind_term u f → Fails text SomeWay behind_terms t f
elim_fails_2 text t h r q = elim_fails text t h (then_fails (any_follows Elim1 behind_terms) r (then_fails_first comma_follows elim_done_2 q))

pub elim_fails_3 : (text : List ℕ) (t : Token) {u v : Token} {A B : Part} {f : ParseFault} → IsWordAt text t (codes "elim") → Read text A (IsWord (codes "elim")) anywhere t u → Read text B (SomeTerm 1) behind_term u v →
    Fails text (IsSign k.Comma) anywhere v f → Fails text SomeWay behind_terms t f
elim_fails_3 text t h r r2 q = elim_fails text t h (then_fails (any_follows Elim1 behind_terms) r (then_fails comma_follows r2 (then_fails_first (any_follows (SomeTerms 1) behind_terms) (terms_done 1) q)))

pub elim_fails_4 : (text : List ℕ) (t : Token) {u v w : Token} {A B C : Part} {f : ParseFault} → IsWordAt text t (codes "elim") → Read text A (IsWord (codes "elim")) anywhere t u → Read text B (SomeTerm 1) behind_term u v →
    Read text C (IsSign k.Comma) anywhere v w → Fails text (SomeTerms 1) behind_terms w f → Fails text SomeWay behind_terms t f
elim_fails_4 text t h r r2 r3 q = elim_fails text t h (then_fails (any_follows Elim1 behind_terms) r (then_fails comma_follows r2 (then_fails (any_follows (SomeTerms 1) behind_terms) r3 q)))

pub elim_read : (text : List ℕ) (t : Token) {u v w x : Token} {A C : Part} {a : Surface} {xs : Surfaces} {s e s2 e2 : ℕ} → IsWordAt text t (codes "elim") → Read text A (IsWord (codes "elim")) anywhere t u →
    Read text (TermIs 1 a s e) (SomeTerm 1) behind_term u v → Read text C (IsSign k.Comma) anywhere v w → Read text (TermsAre 1 xs s2 e2) (SomeTerms 1) behind_terms w x → Read text (WayIs (g.Elim (more a xs))) SomeWay behind_terms t x
elim_read text t {a = a} {xs = xs} {s = s} {e = e} h r r2 r3 r4 =
    seen_as (λ l ts rest p. subst (λ v. IsWay l v (g.Elim (more a xs)) rest) (sym p.1.2) (IsWay.elimination refl (subst (λ v. Term l 1 p.0 a s e v) p.2.2.1.2 p.2.1) p.2.2.2))
    elim_names (elim_back text t h) (same_stop behind_terms)
    (then_read (any_follows Elim1 behind_terms) (as_part r) (then_read comma_follows r2 (then_read (any_follows (SomeTerms 1) behind_terms) (as_part r3) r4)))

-- by same
same_names : Names (Then (IsWord (codes "same")) (SomeTerm 1)) SomeWay
same_names = λ l ts rest p. (g.Same p.2.0, subst (λ v. IsWay l v (g.Same p.2.0) rest) (sym p.1.2) (IsWay.same refl p.2.3))

same_into : {l : ℕ} {ts r : List Lexeme} {b : SurfaceBody} → IsWay l ts b r → (z : Lexeme) (us : List Lexeme) (w : List ℕ) (s0 e0 : ℕ) → ts ≡ z ∷ us → z ≡ name w s0 e0 → w ≡ codes "same" → Then (IsWord (codes "same")) (SomeTerm 1) l (z ∷ us) r
same_into (IsWay.intro o) z us w s0 e0 h i q = absurd (same≢intro (sym (clash o q h i)))
same_into (IsWay.elimination o t a) z us w s0 e0 h i q = absurd (same≢elim (sym (clash o q h i)))
same_into (IsWay.same {s = s} {e = e} {ts = ts} o t) z us w s0 e0 h i q = (_, (s, e, sym h ∙ ap (λ v. name v s e ∷ ts) o), (_, _, _, t))
same_into (IsWay.fill o t) z us w s0 e0 h i q = absurd (use≢same (clash o q h i))

same_back : (text : List ℕ) (t : Token) → IsWordAt text t (codes "same") → Back text t behind_terms (Then (IsWord (codes "same")) (SomeTerm 1)) SomeWay
same_back text t h = λ l ts rest p ok. same_into p.1 (seen text t) ts _ _ _ refl (seen_word text t h) refl

pub same_fails_1 : (text : List ℕ) (t : Token) {f : ParseFault} → IsWordAt text t (codes "same") → Fails text (IsWord (codes "same")) anywhere t f → Fails text SomeWay behind_terms t f
same_fails_1 text t h q = fails_as same_names (same_back text t h) terms_to_term (then_fails_first (any_follows (SomeTerm 1) behind_term) (term_done 1) q)

pub same_fails_2 : (text : List ℕ) (t : Token) {u : Token} {A : Part} {f : ParseFault} → IsWordAt text t (codes "same") → Read text A (IsWord (codes "same")) anywhere t u → Fails text (SomeTerm 1) behind_term u f → Fails text SomeWay behind_terms t f
same_fails_2 text t h r q = fails_as same_names (same_back text t h) terms_to_term (then_fails (any_follows (SomeTerm 1) behind_term) r q)

pub same_read : (text : List ℕ) (t : Token) {u v : Token} {A : Part} {a : Surface} {s e : ℕ} → IsWordAt text t (codes "same") → Read text A (IsWord (codes "same")) anywhere t u → Read text (TermIs 1 a s e) (SomeTerm 1) behind_term u v →
    Read text (WayIs (g.Same a)) SomeWay behind_terms t v
same_read text t {a = a} h r r2 = seen_as (λ l ts rest p. subst (λ v. IsWay l v (g.Same a) rest) (sym p.1.2) (IsWay.same refl p.2))
    same_names (same_back text t h) terms_to_term (then_read (any_follows (SomeTerm 1) behind_term) (as_part r) r2)

-- by use
abbrev Use1 : Part
Use1 = Then IsName SomeFilling

use_names : Names (Then (IsWord (codes "use")) Use1) SomeWay
use_names = λ l ts rest p. let b = g.Fill (span p.2.1.1 p.2.1.2) p.2.1.0 p.2.2.0 in
    (b, subst (λ v. IsWay l v b rest) (sym (p.1.2 ∙ ap (λ v. name (codes "use") p.1.0 p.1.1 ∷ v) p.2.1.3)) (IsWay.fill refl p.2.2.1))

use_into : {l : ℕ} {ts r : List Lexeme} {b : SurfaceBody} → IsWay l ts b r → (z : Lexeme) (us : List Lexeme) (w : List ℕ) (s0 e0 : ℕ) → ts ≡ z ∷ us → z ≡ name w s0 e0 → w ≡ codes "use" → Then (IsWord (codes "use")) Use1 l (z ∷ us) r
use_into (IsWay.intro o) z us w s0 e0 h i q = absurd (use≢intro (sym (clash o q h i)))
use_into (IsWay.elimination o t a) z us w s0 e0 h i q = absurd (use≢elim (sym (clash o q h i)))
use_into (IsWay.same o t) z us w s0 e0 h i q = absurd (use≢same (sym (clash o q h i)))
use_into (IsWay.fill {s = s} {e = e} {s1 = s1} {e1 = e1} {c = c} {ts = ts} o t) z us w s0 e0 h i q = (_, (s, e, sym h ∙ ap (λ v. name v s e ∷ name c s1 e1 ∷ ts) o), (_, (_, _, _, refl), (_, t)))

use_back : (text : List ℕ) (t : Token) → IsWordAt text t (codes "use") → Back text t behind_terms (Then (IsWord (codes "use")) Use1) SomeWay
use_back text t h = λ l ts rest p ok. use_into p.1 (seen text t) ts _ _ _ refl (seen_word text t h) refl

filling_done : (l : ℕ) → Begins (SomeFilling l) []
filling_done l = record { more = []; whole = λ rest. ([], IsFilling.nothing) }

use_done : (l : ℕ) → Begins (Use1 l) []
use_done l = begins_first IsName SomeFilling l [] (filling_done l) (begins_name l)

pub use_fails_1 : (text : List ℕ) (t : Token) {f : ParseFault} → IsWordAt text t (codes "use") → Fails text (IsWord (codes "use")) anywhere t f → Fails text SomeWay behind_terms t f
use_fails_1 text t h q = fails_as use_names (use_back text t h) (same_stop behind_terms) (then_fails_first (any_follows Use1 behind_terms) use_done q)

pub use_fails_2 : (text : List ℕ) (t : Token) {u : Token} {A : Part} {f : ParseFault} → IsWordAt text t (codes "use") → Read text A (IsWord (codes "use")) anywhere t u → Fails text IsName anywhere u f → Fails text SomeWay behind_terms t f
use_fails_2 text t h r q = fails_as use_names (use_back text t h) (same_stop behind_terms) (then_fails (any_follows Use1 behind_terms) r (then_fails_first (any_follows SomeFilling behind_terms) filling_done q))

pub use_fails_3 : (text : List ℕ) (t : Token) {u v : Token} {A B : Part} {f : ParseFault} → IsWordAt text t (codes "use") → Read text A (IsWord (codes "use")) anywhere t u → Read text B IsName anywhere u v →
    Fails text SomeFilling behind_terms v f → Fails text SomeWay behind_terms t f
use_fails_3 text t h r r2 q = fails_as use_names (use_back text t h) (same_stop behind_terms) (then_fails (any_follows Use1 behind_terms) r (then_fails (any_follows SomeFilling behind_terms) r2 q))

pub use_read : (text : List ℕ) (t u : Token) {v w : Token} {A : Part} {xs : List SurfaceArg} → IsWordAt text t (codes "use") → u.kind ≡ k.Name → Read text A (IsWord (codes "use")) anywhere t u → Read text (Is (seen text u)) IsName anywhere u v →
    Read text (FillingIs xs) SomeFilling behind_terms v w → Read text (WayIs (g.Fill (span u.span.start u.span.end) (between text u.span.start u.span.end) xs)) SomeWay behind_terms t w
use_read text t u {xs = xs} h named r r2 r3 =
    let b = g.Fill (span u.span.start u.span.end) (between text u.span.start u.span.end) xs in
    seen_as (λ l ts rest p. subst (λ v. IsWay l v b rest) (sym (p.1.2 ∙ ap (λ v. name (codes "use") p.1.0 p.1.1 ∷ v) (p.2.1 ∙ ap (λ v. v ∷ p.2.0) (seen_name text u named)))) (IsWay.fill refl p.2.2))
    use_names (use_back text t h) (same_stop behind_terms) (then_read (any_follows Use1 behind_terms) (as_part r) (then_read (any_follows SomeFilling behind_terms) r2 r3))

-- no such word
way_none : {l : ℕ} {ts r : List Lexeme} {b : SurfaceBody} (text : List ℕ) (t : Token) (us : List Lexeme) → IsWay l ts b r → ts ≡ seen text t ∷ us → (IsWordAt text t (codes "intro") → ⊥) → (IsWordAt text t (codes "elim") → ⊥) →
    (IsWordAt text t (codes "same") → ⊥) → (IsWordAt text t (codes "use") → ⊥) → ⊥
way_none text t us (IsWay.intro {s = s} {e = e} o) h i j m n = i (word_seen text t (sym (heads h) ∙ ap (λ v. name v s e) o))
way_none text t us (IsWay.elimination {s = s} {e = e} o a b) h i j m n = j (word_seen text t (sym (heads h) ∙ ap (λ v. name v s e) o))
way_none text t us (IsWay.same {s = s} {e = e} o a) h i j m n = m (word_seen text t (sym (heads h) ∙ ap (λ v. name v s e) o))
way_none text t us (IsWay.fill {s = s} {e = e} o a) h i j m n = n (word_seen text t (sym (heads h) ∙ ap (λ v. name v s e) o))

way_done : (l : ℕ) → Begins (SomeWay l) []
way_done l = record { more = name (codes "intro") l l ∷ name [] l l ∷ []; whole = λ rest. (_, IsWay.intro refl) }

pub no_way : (text : List ℕ) (t : Token) → (IsWordAt text t (codes "intro") → ⊥) → (IsWordAt text t (codes "elim") → ⊥) → (IsWordAt text t (codes "same") → ⊥) → (IsWordAt text t (codes "use") → ⊥) →
    Fails text SomeWay behind_terms t (Syntax t.span.start)
no_way text t i j m n = Fails.syntax Reads.here way_done (λ l more rest p ok. way_none text t more p.1 refl i j m n)

-- Bodies.
by_names : Names (Then (IsSign k.By) SomeWay) SomeBody
by_names = λ l ts rest p. (p.2.0, subst (λ v. IsBody l v p.2.0 rest) (sym p.1.2) (IsBody.by p.2.1))

by_into : {l : ℕ} {ts r : List Lexeme} {b : SurfaceBody} → IsBody l ts b r → (z : Lexeme) (us : List Lexeme) (s0 e0 : ℕ) → ts ≡ z ∷ us → z ≡ sign k.By s0 e0 → Then (IsSign k.By) SomeWay l (z ∷ us) r
by_into (IsBody.plain t) z us s0 e0 h i = absurd (false≢true (sym (ap (first_is begins_term) (h ∙ ap (λ v. v ∷ us) i)) ∙ term_first t))
by_into (IsBody.by w) z us s0 e0 h i = (_, (_, _, sym h), (_, w))

by_back : (text : List ℕ) (t : Token) → t.kind ≡ k.By → Back text t behind_terms (Then (IsSign k.By) SomeWay) SomeBody
by_back text t h = λ l ts rest p ok. by_into p.1 (seen text t) ts _ _ refl (seen_sign text t k.By refl h)

pub by_fails_1 : (text : List ℕ) (t : Token) {f : ParseFault} → t.kind ≡ k.By → Fails text (IsSign k.By) anywhere t f → Fails text SomeBody behind_terms t f
by_fails_1 text t h q = fails_as by_names (by_back text t h) (same_stop behind_terms) (then_fails_first (any_follows SomeWay behind_terms) way_done q)

pub by_fails_2 : (text : List ℕ) (t : Token) {u : Token} {A : Part} {f : ParseFault} → t.kind ≡ k.By → Read text A (IsSign k.By) anywhere t u → Fails text SomeWay behind_terms u f → Fails text SomeBody behind_terms t f
by_fails_2 text t h r q = fails_as by_names (by_back text t h) (same_stop behind_terms) (then_fails (any_follows SomeWay behind_terms) r q)

pub by_read : (text : List ℕ) (t : Token) {u v : Token} {A : Part} {b : SurfaceBody} → t.kind ≡ k.By → Read text A (IsSign k.By) anywhere t u → Read text (WayIs b) SomeWay behind_terms u v → Read text (BodyIs b) SomeBody behind_terms t v
by_read text t {b = b} h r r2 = seen_as (λ l ts rest p. subst (λ v. IsBody l v b rest) (sym p.1.2) (IsBody.by p.2)) by_names (by_back text t h) (same_stop behind_terms)
    (then_read (any_follows SomeWay behind_terms) (as_part r) r2)

plain_names : Names (SomeTerm 1) SomeBody
plain_names = λ l ts rest p. (g.Plain p.0, IsBody.plain p.3)

plain_into : {l : ℕ} {ts r : List Lexeme} {b : SurfaceBody} → IsBody l ts b r → (z : Lexeme) (us : List Lexeme) → ts ≡ z ∷ us → ((s e : ℕ) → z ≡ sign k.By s e → ⊥) → SomeTerm 1 l (z ∷ us) r
plain_into {l} {ts} {r} (IsBody.plain t) z us h other = subst (λ v. SomeTerm 1 l v r) h (_, _, _, t)
plain_into (IsBody.by w) z us h other = absurd (other _ _ (sym (heads h)))

plain_back : (text : List ℕ) (t : Token) → (t.kind ≡ k.By → ⊥) → Back text t behind_terms (SomeTerm 1) SomeBody
plain_back text t other = λ l ts rest p ok. plain_into p.1 (seen text t) ts refl (λ s e h. other (lexeme_kind text t.kind _ _ k.By s e h))

pub plain_read : (text : List ℕ) (t : Token) {u : Token} {a : Surface} {s e : ℕ} → (t.kind ≡ k.By → ⊥) → Read text (TermIs 1 a s e) (SomeTerm 1) behind_term t u → Read text (BodyIs (g.Plain a)) SomeBody behind_terms t u
plain_read text t other r = seen_as (λ l ts rest p. IsBody.plain p) plain_names (plain_back text t other) terms_to_term r

pub plain_fails : (text : List ℕ) (t : Token) {f : ParseFault} → (t.kind ≡ k.By → ⊥) → Fails text (SomeTerm 1) behind_term t f → Fails text SomeBody behind_terms t f
plain_fails text t other q = fails_as plain_names (plain_back text t other) terms_to_term q
